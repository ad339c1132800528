use Rattle.sfen.proofs.OneLemmas.{stands-for-one}
use Rattle.sfen.proofs.reading_laws.stands_for_one.Goals as goal

pub returns : goal.returns
returns c = λ text p q m n is_p is_q. stands-for-one text p q m n is_p is_q
