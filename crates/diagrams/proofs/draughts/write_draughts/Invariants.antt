use Rattle.std.proofs.Common.{◌≡◌, ◌++◌, ◌-◌, string_bytes}
use Rattle.diagrams.specs.DraughtsDiagram.{rows_text, diagram_text}
use Rattle.diagrams.proofs.draughts.write_draughts.Given as goal

abbrev pub invariant-loop-row : goal.invariant-loop-row
invariant-loop-row l =
    string_bytes l.text ++ rows_text l.position.board l.row (10 - l.row) ≡ diagram_text l.position.board
