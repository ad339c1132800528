use Rattle.std.proofs.Common.{List, ℕ, ◌++◌, refl, ap}
use Rattle.diagrams.specs.DraughtsDiagram.{rows_text, diagram_text}
use Rattle.diagrams.proofs.Joined.{parts-more}
use Rattle.diagrams.proofs.draughts.write_draughts.Goals as goal

pub loop-row-init : goal.loop-row-init
unfolding diagram_text
loop-row-init c = ap (λ (t : List ℕ). t ++ rows_text c.args.position.now.board 0 10) c.new-text.ensures.bytes

pub loop-row-preserved : goal.loop-row-preserved
loop-row-preserved c =
    parts-more (rows_text c.args.position.now.board) 10 c.loop-row.row _ _ _ _ (λ left e. refl) c.loop-row-test.true
    c.loop-row.invariant c.in_ok-push_row.ensures
