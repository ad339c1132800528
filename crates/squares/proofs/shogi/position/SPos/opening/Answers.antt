use Rattle.std.proofs.Common.{sym, subst}
use Rattle.squares.specs.internal.ShogiSets.{IsShogiPosition}
use Rattle.squares.specs.ShogiOpening.{opening}
use Rattle.squares.proofs.ShogiOpened.{opening-IsShogiPosition, opening-parts}
use Rattle.squares.proofs.shogi.position.SPos.opening.Goals as goal

pub invariant_of-result : goal.invariant_of-result
invariant_of-result c =
    subst (λ b. IsShogiPosition b c.no_hands.result) (sym c.opening_board.ensures)
    (subst (λ h. IsShogiPosition opening.board h) (sym c.no_hands.ensures) opening-IsShogiPosition)

pub returns : goal.returns
returns c = opening-parts c.opening_board.result c.no_hands.result c.opening_board.ensures c.no_hands.ensures
