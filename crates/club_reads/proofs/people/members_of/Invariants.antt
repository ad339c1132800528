use Rattle.std.proofs.Common.{◌≡◌, List, length, map, take}
use Rattle.club_core.specs.internal.Answer.{members_of}
use Rattle.club_core.specs.Members.{Member}
use Rattle.club_rows.specs.Tables.{gathered_from, numbered_from, member_row, rows_of_keys}
use Rattle.store_tables.specs.Changes.{HaveSame}
use Rattle.store_tables.specs.internal.Cells.{key_cells, member_cells}
use Rattle.club_reads.proofs.people.members_of.Given as goal

abbrev pub invariant-loop-row : goal.invariant-loop-row
invariant-loop-row l = record {
  count : length l.members.items ≡ l.row-index;
  values : (all : List Member) → map member_cells l.rows ≡ numbered_from member_row 1 all
      → HaveSame (map key_cells l.keys) (gathered_from rows_of_keys 1 all)
      → members_of l.members.items ≡ take l.row-index all;
}
