use Rattle.shogi_moves.proofs.MateLemmas.{has_move-is}
use Rattle.shogi_moves.proofs.laws.has_move_is.Goals as goal

pub returns : goal.returns
returns c = λ p. has_move-is p
