-- The rows that a sweep upserts. No promise of the program rests on these definitions.
use Rattle.std.specs.Prelude.{◌≡◌, ℕ, [], ◌∷◌, map, count_by}
use Rattle.store_tables.specs.Cells.{game_cells}
use Rattle.store_tables.specs.internal.Cells.{score_cells}
use Rattle.store_tables.specs.Changes.{HaveSame}
use Rattle.store_tables.specs.internal.Changes.{put_rows}
use Rattle.store_tables.specs.Names.{tree_of}
use Rattle.store_tables.specs.declared.names.Table.TheVariants.{Members, Events, Challenges, Moves, Games, Seen}
use Rattle.store_tables.specs.declared.names.Table.TheVariants.{Scores, EventRules, Keys, Rulings, Closings}
use Rattle.club_core.specs.State.{is_late_any, with_swept}
use Rattle.club_rows.specs.Club.{ClubState, both_games, tables}
use Rattle.club_changes.specs.declared.swept.rows.SweptRows.{SweptRows}

-- The count is the number of games lost on time by then. Upserted in order, the rows turn the tables of games and
-- scores into those after these games have ended.
pub record IsSwept (s : ClubState) (moment : ℕ) (rows : SweptRows) : Type 0 where
  pub count_is : rows.count ≡ count_by (is_late_any both_games s moment) s.games
  pub games_are : HaveSame (put_rows (0 ∷ []) (map game_cells rows.games.items) (tables s (tree_of Games)))
      (tables (with_swept both_games s moment) (tree_of Games))
  pub scores_are : HaveSame (put_rows (0 ∷ 1 ∷ 2 ∷ []) (map score_cells rows.scores.items) (tables s (tree_of Scores)))
      (tables (with_swept both_games s moment) (tree_of Scores))

-- A sweep changes only the tables of games, scores and `meta`.
pub record LeavesOthers (s : ClubState) (moment : ℕ) : Type 0 where
  pub members_stay : tables (with_swept both_games s moment) (tree_of Members) ≡ tables s (tree_of Members)
  pub events_stay : tables (with_swept both_games s moment) (tree_of Events) ≡ tables s (tree_of Events)
  pub rules_stay : tables (with_swept both_games s moment) (tree_of EventRules) ≡ tables s (tree_of EventRules)
  pub challenges_stay : tables (with_swept both_games s moment) (tree_of Challenges) ≡ tables s (tree_of Challenges)
  pub moves_stay : tables (with_swept both_games s moment) (tree_of Moves) ≡ tables s (tree_of Moves)
  pub seen_stays : tables (with_swept both_games s moment) (tree_of Seen) ≡ tables s (tree_of Seen)
  pub keys_stay : tables (with_swept both_games s moment) (tree_of Keys) ≡ tables s (tree_of Keys)
  pub rulings_stay : tables (with_swept both_games s moment) (tree_of Rulings) ≡ tables s (tree_of Rulings)
  pub closings_stay : tables (with_swept both_games s moment) (tree_of Closings) ≡ tables s (tree_of Closings)
