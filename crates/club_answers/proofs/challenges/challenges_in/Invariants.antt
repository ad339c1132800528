use Rattle.std.proofs.Common.{◌≡◌, map, take}
use Rattle.sqlite_trees.specs.Tree.{IsAscending}
use Rattle.club_rows.specs.Tables.{challenge_row}
use Rattle.store_tables.specs.internal.Cells.{challenge_cells}
use Rattle.club_answers.specs.Challenges.{ComesBefore}
use Rattle.club_answers.proofs.challenges.challenges_in.Given as goal

abbrev pub invariant-loop-row : goal.invariant-loop-row
invariant-loop-row l = record {
  rows : map challenge_cells (take l.row-index l.rows) ≡ map challenge_row l.challenges.items;
  order : IsAscending ComesBefore l.challenges.items;
}
