use Rattle.std.proofs.Common.{◌≡◌, false, take}
use Rattle.std.specs.List.{list_any}
use Rattle.schema_match.specs.Shapes.{answers_as}
use Rattle.schema_match.proofs.tables.has_table.Given as goal

abbrev pub invariant-loop-theirs : goal.invariant-loop-theirs
invariant-loop-theirs l = list_any (answers_as l.schema l.ours) (take l.theirs-index l.theirs-items) ≡ false
