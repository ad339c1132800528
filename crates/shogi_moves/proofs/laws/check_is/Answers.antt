use Rattle.shogi_moves.proofs.AnswerLemmas.{check_of-is}
use Rattle.shogi_moves.proofs.laws.check_is.Goals as goal

pub returns : goal.returns
returns c = check_of-is
