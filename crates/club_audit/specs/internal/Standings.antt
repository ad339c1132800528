-- When rows of scores are those of these games. No promise of the program rests on these definitions.
use Rattle.std.specs.Prelude.{Bool, true, false, ℤ, is_some}
use Rattle.std.specs.Prelude.{◌≡◌, ◌≤◌, List, [], ◌∷◌, ◌++◌, map, length, Option, Some, None, cond, string_bytes}
use Rattle.std.specs.Option.{option_map}
use Rattle.std.specs.HashMap.{HashMap}
use Rattle.squares.specs.declared.sides.Score.{Score}
use Rattle.squares.specs.Sides.{score_text}
use Rattle.store_tables.specs.Cells.{game_cells}
use Rattle.store_tables.specs.declared.rows.GameTableRow.{GameTableRow}
use Rattle.store_tables.specs.declared.rows.ScoreRow.{ScoreRow}
use Rattle.club_requests.specs.Limits.{most_games}
use Rattle.club_rows.specs.Club.{ClubState, both_games}
use Rattle.club_rows.specs.Tables.{numbered_from, row_of_game}
use Rattle.club_rows.specs.internal.NextScores.{no_sums, sums_found, sums_over}
use Rattle.club_rows.specs.internal.Pairs.{pair_in, sums_at}
use Rattle.club_rows.specs.Scores.{Meeting, meetings, same_pair, scores_of}
use Rattle.club_rows.specs.declared.scores.Pair.{Pair}
use Rattle.club_rows.specs.declared.scores.OwnScore.{OwnScore}
use Rattle.club_rows.specs.declared.scores.ScoreSums.{ScoreSums}

-- the rows are those of the club's games, in the order of ids
pub record AreGamesOf (s : ClubState) (rows : List GameTableRow) : Type 0 where
  pub few : length s.games ≤ most_games
  pub rows_are : map game_cells rows ≡ numbered_from (row_of_game both_games s.events) 1 s.games

-- ---- the results in rows of games

-- the results of a game that has ended; none while it runs
abbrev pub met_if : Bool → (event first second : ℤ) → Option Score → List Meeting
met_if true event first second score = meetings event first second score
met_if false event first second score = []

-- the results of the game of this row
pub record Tells (row : GameTableRow) (ms : List Meeting) : Type 0 where
  pub score : Option Score
  pub result : option_map (λ s. string_bytes s) row.result ≡ option_map score_text score
  pub met : ms ≡ met_if (is_some row.end) row.event row.first row.second score

-- the results of all games, in order
abbrev pub AreTold : List GameTableRow → List Meeting → Type 0
AreTold [] ms = ms ≡ []
AreTold (row ∷ rows) ms = (own : List Meeting) × (rest : List Meeting) × Tells row own × AreTold rows rest
    × (ms ≡ own ++ rest)

-- ---- the sums of all pairs

-- the sums of a list of results; None if it is empty
abbrev pub some_sums : List OwnScore → Option ScoreSums
some_sums [] = None
some_sums (s ∷ ss) = Some (sums_over (s ∷ ss))

-- the sums, or zeros if there are none
abbrev pub sums_or_none : Option ScoreSums → ScoreSums
sums_or_none None = no_sums
sums_or_none (Some sums) = sums

-- each pair has the sums of its results
abbrev pub AreStandings : {S : Type 0} → HashMap Pair ScoreSums S → List Meeting → Type 0
AreStandings standings ms = (pair : Pair) → sums_at standings pair ≡ some_sums (scores_of pair ms)

-- ---- rows compared with sums

-- the sums without this pair
abbrev pub without : Pair → (Pair → Option ScoreSums) → Pair → Option ScoreSums
without pair sums other = cond (same_pair pair other) None (sums other)

-- each row has the sums of its pair, and no pair is left
abbrev pub Clears : (Pair → Option ScoreSums) → List ScoreRow → Type 0
Clears sums [] = (pair : Pair) → sums pair ≡ None
Clears sums (row ∷ rows) = (sums (pair_in row) ≡ Some (sums_found (Some row)))
    × Clears (without (pair_in row) sums) rows
