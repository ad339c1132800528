use Rattle.std.proofs.Common.{◌≡◌, true, take}
use Rattle.schema_match.specs.Shapes.{have_tables}
use Rattle.schema_match.proofs.tables.count_tables.Given as goal

abbrev pub invariant-loop-table : goal.invariant-loop-table
invariant-loop-table l =
    (l.count ≡ l.table-index) × (have_tables l.schema (take l.table-index l.tables) ≡ true)
