use Rattle.std.proofs.Common.{map, take}
use Rattle.store_tables.specs.internal.Cells.{score_cells}
use Rattle.club_changes.specs.internal.Standing.{AreStanding}
use Rattle.club_rows.specs.internal.Pairs.{sums_at}
use Rattle.club_changes.proofs.swept.standings.standings_of.Given as goal

abbrev pub invariant-loop-row : goal.invariant-loop-row
invariant-loop-row l = AreStanding (λ pair. sums_at l.standings pair) (map score_cells (take l.row-index l.rows))
