use Rattle.std.proofs.Common.{◌≡◌, ◌++◌, ◌-◌, string_bytes}
use Rattle.diagrams.specs.DraughtsDiagram.{cells_text}
use Rattle.diagrams.proofs.draughts.push_cells.Given as goal

abbrev pub invariant-loop-column : goal.invariant-loop-column
invariant-loop-column l =
    string_bytes l.text ++ cells_text l.position.board l.row l.column (10 - l.column) ≡ string_bytes l.initial.text
    ++ cells_text l.position.board l.row 0 10
