use Rattle.std.proofs.Common.{sym, ◌∙◌}
use Rattle.squares.specs.internal.ShogiOrder.{board_cmp}
use Rattle.squares.proofs.ShogiOrdered.{board_cmp-cells}
use Rattle.squares.proofs.shogi.board.SBoard.compare.Goals as goal

pub returns : goal.returns
returns c =
    c.cmp.ensures ∙ board_cmp-cells c.self.inside.cells c.other.inside.cells
    (c.self.invariant.has_cells ∙ sym c.other.invariant.has_cells)
    ∙ (λ i. board_cmp (c.self.view_is i) (c.other.view_is i))
