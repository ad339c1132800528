use Rattle.http_head.proofs.RequestLemmas.{sees_more, asks_more}
use Rattle.http_head.proofs.laws.decided_stays.Goals as goal

pub returns : goal.returns
returns c = λ bytes more seen sees decided.
    (sees_more bytes more seen sees decided, asks_more bytes more seen sees decided)
