use Rattle.std.proofs.Common.{◌≡◌, map, take}
use Rattle.sqlite_trees.specs.Tree.{IsAscending}
use Rattle.store_tables.specs.internal.Cells.{score_cells}
use Rattle.club_answers.specs.CrossTable.{scored_row, ComesBefore}
use Rattle.club_answers.proofs.scored.scored_rows.Given as goal

abbrev pub invariant-loop-row : goal.invariant-loop-row
invariant-loop-row l = record {
  rows : map score_cells (take l.row-index l.rows) ≡ map (scored_row l.event) l.scores.items;
  order : IsAscending ComesBefore l.scores.items;
}
