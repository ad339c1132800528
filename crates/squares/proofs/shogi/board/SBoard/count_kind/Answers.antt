use Rattle.std.proofs.Common.{ap, sym, ◌∙◌}
use Rattle.squares.specs.ShogiBoard.{ShogiBoard}
use Rattle.squares.specs.internal.ShogiSets.{count_on, holds_kind}
use Rattle.squares.proofs.ShogiCounts.{count_on-cells}
use Rattle.squares.proofs.shogi.board.SBoard.count_kind.Goals as goal

pub returns-clause-value : goal.returns-clause-value
returns-clause-value c =
    c.count_cells_of.ensures.value
    ∙ sym (count_on-cells (holds_kind c.args.kind) c.self.inside.cells c.self.invariant.has_cells)
    ∙ ap (λ (b : ShogiBoard). count_on (holds_kind c.args.kind) b) c.self.view_is
