use Rattle.http_head.proofs.RequestLemmas.{sees_once}
use Rattle.http_head.proofs.laws.one_reading.Goals as goal

pub returns : goal.returns
returns c = sees_once
