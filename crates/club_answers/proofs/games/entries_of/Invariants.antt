use Rattle.std.proofs.Common.{◌≡◌, ◌+◌, ◌++◌, map, drop}
use Rattle.club_rows.specs.Club.{ClubState, IsClub}
use Rattle.club_rows.specs.Tables.{numbered_from}
use Rattle.club_changes.specs.internal.Steps.{game_in}
use Rattle.store_tables.specs.Cells.{game_cells}
use Rattle.club_lists.specs.internal.SummaryViews.{summaries_of}
use Rattle.club_answers.specs.Games.{game_summaries_from, game_summaries}
use Rattle.club_answers.proofs.games.entries_of.Given as goal

abbrev pub invariant-loop-row : goal.invariant-loop-row
invariant-loop-row l =
    (s : ClubState) → IsClub s → map game_cells l.rows ≡ numbered_from (game_in s) 1 s.games
    → summaries_of l.games.items ++ game_summaries_from s (1 + l.row-index) (drop l.row-index s.games) ≡ game_summaries s
