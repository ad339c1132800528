use Rattle.diagrams.specs.BodNames.{cell_text}
use Rattle.diagrams.proofs.ShogiWriting.{squares-more}
use Rattle.diagrams.proofs.bod.push_squares.Goals as goal

pub loop-past-preserved : goal.loop-past-preserved
loop-past-preserved c =
    squares-more cell_text c.args.board.now c.args.rank c.loop-past.past _ _ _ c.loop-past-test.true
    c.loop-past.invariant (rw c.piece_at.ensures at c.in_ok-push_cell.ensures)
