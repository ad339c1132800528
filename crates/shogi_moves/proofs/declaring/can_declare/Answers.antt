use Rattle.shogi_moves.proofs.DeclareLemmas.{can_declare-is}
use Rattle.shogi_moves.proofs.TruthLemmas.{holds-as}
use Rattle.shogi_moves.proofs.declaring.can_declare.Goals as goal

pub returns-clause-rule : goal.returns-clause-rule
returns-clause-rule c = holds-as _ _ c.declares.ensures (can_declare-is _)
