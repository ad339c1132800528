use Rattle.std.proofs.Common.{◌≡◌, take}
use Rattle.std.specs.Prelude.{sum_by}
use Rattle.cross_tables.specs.Field.{weighted}
use Rattle.cross_tables.specs.Totals.{AreTotals}
use Rattle.cross_tables.proofs.field.sonneborn_berger.Given as goal

abbrev pub invariant-loop-row : goal.invariant-loop-row
invariant-loop-row l =
    AreTotals l.standings l.rows → l.sum ≡ sum_by (weighted l.member l.rows) (take l.row-index l.rows)
