use Rattle.shogi_moves.proofs.DeclareLemmas.{can_declare-is}
use Rattle.shogi_moves.proofs.laws.can_declare_is.Goals as goal

pub returns : goal.returns
returns c = λ p. can_declare-is p
