use Rattle.std.proofs.Common.{◌≡◌, List, length, map, take}
use Rattle.club_core.specs.internal.Answer.{events_of}
use Rattle.club_core.specs.Events.{Event}
use Rattle.club_rows.specs.Tables.{gathered_from, numbered_from, event_row, rows_of_closing, rule_row}
use Rattle.store_tables.specs.Changes.{HaveSame}
use Rattle.store_tables.specs.Cells.{event_cells}
use Rattle.store_tables.specs.internal.Cells.{closing_cells, event_rule_cells}
use Rattle.club_reads.proofs.events.events_of.Given as goal

abbrev pub invariant-loop-i : goal.invariant-loop-i
invariant-loop-i l = record {
  count : length l.events.items ≡ l.i;
  values : (all : List Event) → map event_cells l.rows ≡ numbered_from event_row 1 all
      → map event_rule_cells l.rules ≡ numbered_from rule_row 1 all
      → HaveSame (map closing_cells l.closings) (gathered_from rows_of_closing 1 all)
      → events_of l.events.items ≡ take l.i all;
}
