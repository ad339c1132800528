use Rattle.std.proofs.Common.{◌≡◌, ◌++◌, take}
use Rattle.std.specs.Prelude.{string_bytes}
use Rattle.cross_tables.specs.Lines.{cells_text}
use Rattle.cross_tables.proofs.lines.push_cells.Given as goal

abbrev pub invariant-loop-cell : goal.invariant-loop-cell
invariant-loop-cell l = string_bytes l.line ≡ string_bytes l.initial.line ++ cells_text (take l.cell-index l.cells)
