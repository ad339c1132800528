use Rattle.std.proofs.Common.{◌≡◌, map, take}
use Rattle.cross_tables.specs.Field.{line_of}
use Rattle.cross_tables.specs.Totals.{AreTotals}
use Rattle.cross_tables.proofs.field.lines_of.Given as goal

abbrev pub invariant-loop-member : goal.invariant-loop-member
invariant-loop-member l =
    AreTotals l.standings l.rows → l.lines.items ≡ map (line_of l.rows l.games) (take l.member-index l.members)
