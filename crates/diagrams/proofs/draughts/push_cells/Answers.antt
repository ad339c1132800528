use Rattle.std.proofs.Common.{refl}
use Rattle.diagrams.specs.DraughtsDiagram.{cells_text}
use Rattle.diagrams.proofs.Joined.{parts-more}
use Rattle.diagrams.proofs.draughts.push_cells.Goals as goal

pub loop-column-preserved : goal.loop-column-preserved
loop-column-preserved c =
    parts-more (cells_text c.args.position.now.board c.args.row) 10 c.loop-column.column _ _ _ _ (λ left e. refl)
    c.loop-column-test.true c.loop-column.invariant (rw c.sign_at.ensures.value at c.in_ok-push_cell.ensures)
