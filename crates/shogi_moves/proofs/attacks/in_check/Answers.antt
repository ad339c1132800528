use Rattle.std.proofs.Common.{◌∙◌}
use Rattle.shogi_moves.specs.internal.Search.{king_attacked}
use Rattle.shogi_moves.proofs.AttackLemmas.{king_attacked-is}
use Rattle.shogi_moves.proofs.TruthLemmas.{holds-as}
use Rattle.shogi_moves.proofs.attacks.in_check.Goals as goal

pub returns : goal.returns
returns c =
    holds-as _ _ (c.is_king_attacked.ensures ∙ (λ i. king_attacked (c.board.ensures.value i) (c.turn.ensures i)))
    (king_attacked-is _ _)
