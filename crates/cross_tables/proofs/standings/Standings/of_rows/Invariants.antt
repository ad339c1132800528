use Rattle.std.proofs.Common.{take}
use Rattle.cross_tables.specs.Totals.{AreTotals}
use Rattle.cross_tables.proofs.standings.Standings.of_rows.Given as goal

abbrev pub invariant-loop-row : goal.invariant-loop-row
invariant-loop-row l = AreTotals l.standings (take l.row-index l.rows)
