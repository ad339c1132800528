use Rattle.draughts_moves.proofs.CheckLemmas.{check_of-is}
use Rattle.draughts_moves.proofs.laws.check_is.Goals as goal

pub returns : goal.returns
returns c = λ p m. check_of-is p m
