use Rattle.std.proofs.Common.{◌∙◌, ap}
use Rattle.shogi_moves.specs.internal.Search.{attacked}
use Rattle.shogi_moves.proofs.AttackLemmas.{attacked-is}
use Rattle.shogi_moves.proofs.TruthLemmas.{holds-as}
use Rattle.shogi_moves.proofs.attacks.attacked.Goals as goal

pub returns : goal.returns
returns c = holds-as _ _ (c.is_attacked.ensures ∙ ap (λ b. attacked b c.args.side c.args.square) c.board.ensures.value)
    (attacked-is _ _ _)
