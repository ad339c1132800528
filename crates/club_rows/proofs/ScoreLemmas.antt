-- The rows of scores of a club, as its games change: what is offered to the crates above.
use Rattle.std.proofs.Common.{◌≡◌, ℕ, pos, List, [], ◌∷◌, ◌++◌, Option, Some, None, refl, ap, sym, ◌∙◌, arith}
use Rattle.std.specs.Prelude.{slice_get, slice_set}
use Rattle.std.specs.List.{AllByRecursion, flat_map}
use Rattle.std.proofs.lemmas.List.{append-nil}
use Rattle.sqlite.specs.Order.{Row}
use Rattle.sqlite_rules.specs.Lists.{Has}
use Rattle.sqlite_rules.proofs.ListLemmas.{all_from}
use Rattle.squares.specs.declared.sides.Score.{Score}
use Rattle.store_tables.specs.Cells.{IsScore}
use Rattle.store_tables.specs.internal.Cells.{score_cells}
use Rattle.store_tables.specs.internal.Changes.{Alters}
use Rattle.store_tables.specs.internal.Contents.{AreThose}
use Rattle.store_tables.specs.declared.rows.ScoreRow.{ScoreRow}
use Rattle.club_rules.specs.GameRules.{GameRules}
use Rattle.club_core.specs.ClubRules.{ClubRules}
use Rattle.club_core.specs.declared.rows.GameEnd.{GameEnd}
use Rattle.club_core.specs.Game.{Game, end_of, result_of}
use Rattle.club_core.specs.State.{AnyGame}
use Rattle.club_rows.specs.internal.NextScores.{AreChanged, AreNext, IsFound, pair_cells, pair_of}
use Rattle.club_rows.specs.Scores.{Meeting, meetings, meetings_if, meetings_of, meetings_in, score_rows, scores_in}
use Rattle.club_rows.specs.declared.scores.Pair.{Pair}
use Rattle.club_rows.specs.declared.scores.ScoreRows.{ScoreRows}
use Rattle.club_rows.proofs.ScoreRowLemmas.{met_alike, met_between, met_instead, met_last, rows_alter, rows_had}
use Rattle.club_rows.proofs.ScoreRowLemmas.{rows_instead}

-- ---- one game

-- a game that has not ended is met by none
pub met_running : {P M E T : Type 0} (rules : GameRules P M E T) (game : Game M) → end_of rules game ≡ None
    → meetings_of rules game ≡ []
met_running rules game running =
    ap (λ e. meetings_if (pos game.event) (pos game.first) (pos game.second) e (result_of rules game)) running

-- one that has ended so is met by both players
pub met_ended : {P M E T : Type 0} (rules : GameRules P M E T) (game : Game M) (end : GameEnd E) (score : Option Score)
    → end_of rules game ≡ Some end → result_of rules game ≡ score → meetings_of rules game
    ≡ meetings (pos game.event) (pos game.first) (pos game.second) score
met_ended rules game end score ended result =
    λ i. meetings_if (pos game.event) (pos game.first) (pos game.second) (ended i) (result i)

-- ---- what a look for a pair's row finds

pub found_none : (rows : List Row) (pair : Pair) → AreThose (0 ∷ 1 ∷ 2 ∷ []) (pair_cells pair) rows []
    → IsFound rows pair None
found_none rows pair those row has same = those.complete row has same

pub found_some : (rows : List Row) (pair : Pair) (row : ScoreRow) (found : List Row)
    → AreThose (0 ∷ 1 ∷ 2 ∷ []) (pair_cells pair) rows found → Has found (score_cells row)
    → IsFound rows pair (Some row)
found_some rows pair row found those has = those.sound (score_cells row) has

-- ---- the rows of a club

module _ {DP DM DE DT SP SM SE ST : Type 0} (kinds : ClubRules DP DM DE DT SP SM SE ST) where
  -- where no game's result changes, the rows stay
  pub scores_stay : (games : List (AnyGame DM SM)) (n : ℕ) (old new : AnyGame DM SM) → slice_get games n ≡ Some old
      → meetings_in kinds new ≡ meetings_in kinds old → scores_in kinds (slice_set games n new) ≡ scores_in kinds games
  scores_stay games n old new at same = ap score_rows (met_alike (meetings_in kinds) games n old new at same)

  -- where a game is added that has not ended, the rows stay
  pub scores_seated : (games : List (AnyGame DM SM)) (new : AnyGame DM SM) → meetings_in kinds new ≡ []
      → scores_in kinds (games ++ new ∷ []) ≡ scores_in kinds games
  scores_seated games new none = ap score_rows
      (met_last (meetings_in kinds) games new ∙
      (ap (λ ms. flat_map (meetings_in kinds) games ++ ms) none ∙ append-nil (flat_map (meetings_in kinds) games)))

  -- each row has the types of its columns
  pub scores_typed : (games : List (AnyGame DM SM)) → AllByRecursion IsScore (scores_in kinds games)
  scores_typed games = all_from IsScore (scores_in kinds games)
      (λ z has. let (p, met, is) = rows_had (flat_map (meetings_in kinds) games) z has in
      rw is (grind arith))

  module _ (games : List (AnyGame DM SM)) (event first second : ℕ) (score : Option Score) (firsts seconds : Option ScoreRow)
      (rows : ScoreRows)
      (firsts_is : IsFound (scores_in kinds games) (pair_of event first second) firsts)
      (seconds_is : IsFound (scores_in kinds games) (pair_of event second first) seconds)
      (next : AreNext event first second score firsts seconds rows) where
    ended : (before after now : List Meeting) → flat_map (meetings_in kinds) games ≡ before ++ after
        → now ≡ before ++ (meetings (pos event) (pos first) (pos second) score ++ after)
        → Alters (0 ∷ 1 ∷ 2 ∷ []) (score_cells rows.first ∷ score_cells rows.second ∷ []) (scores_in kinds games)
        (score_rows now)
    ended before after now was is =
        let are = next before after (record { of_first = rw was at firsts_is; of_second = rw was at seconds_is }) in
        rw (was, is, are.of_first, are.of_second)
        (rows_alter before (meetings (pos event) (pos first) (pos second) score) after)

    -- where a game ends, the rows of its two players are put
    pub scores_next : (n : ℕ) (old new : AnyGame DM SM) → slice_get games n ≡ Some old → meetings_in kinds old ≡ []
        → meetings_in kinds new ≡ meetings (pos event) (pos first) (pos second) score
        → Alters (0 ∷ 1 ∷ 2 ∷ []) (score_cells rows.first ∷ score_cells rows.second ∷ []) (scores_in kinds games)
        (scores_in kinds (slice_set games n new))
    scores_next n old new at none ends =
        let (before, after, was, now) = met_between (meetings_in kinds) games n old new at none in
        ended before after _ was (now ∙ ap (λ ms. before ++ (ms ++ after)) ends)

    -- where a game is added that has ended, the rows of its two players are put
    pub scores_added : (new : AnyGame DM SM)
        → meetings_in kinds new ≡ meetings (pos event) (pos first) (pos second) score
        → Alters (0 ∷ 1 ∷ 2 ∷ []) (score_cells rows.first ∷ score_cells rows.second ∷ []) (scores_in kinds games)
        (scores_in kinds (games ++ new ∷ []))
    scores_added new ends =
        let before = flat_map (meetings_in kinds) games in
        ended before [] _ (sym (append-nil before))
        (met_last (meetings_in kinds) games new ∙ ap (λ ms. before ++ ms) (ends ∙ sym (append-nil _)))

  -- where a game that has ended has another score, the rows of its two players are put
  pub scores_changed : (games : List (AnyGame DM SM)) (event first second : ℕ) (before_score score : Option Score)
      (firsts seconds : Option ScoreRow) (rows : ScoreRows)
      → IsFound (scores_in kinds games) (pair_of event first second) firsts
      → IsFound (scores_in kinds games) (pair_of event second first) seconds
      → AreChanged event first second before_score score firsts seconds rows → (n : ℕ) (old new : AnyGame DM SM)
      → slice_get games n ≡ Some old
      → meetings_in kinds old ≡ meetings (pos event) (pos first) (pos second) before_score
      → meetings_in kinds new ≡ meetings (pos event) (pos first) (pos second) score
      → Alters (0 ∷ 1 ∷ 2 ∷ []) (score_cells rows.first ∷ score_cells rows.second ∷ []) (scores_in kinds games)
      (scores_in kinds (slice_set games n new))
  scores_changed games event first second before_score score firsts seconds rows firsts_is seconds_is next n old new at
      was ends =
      let (before, after, these, those) = met_instead (meetings_in kinds) games n old new at in
      let here : flat_map (meetings_in kinds) games
      ≡ before ++ (meetings (pos event) (pos first) (pos second) before_score ++ after) =
      these ∙ ap (λ ms. before ++ (ms ++ after)) was in
      let there : flat_map (meetings_in kinds) (slice_set games n new)
      ≡ before ++ (meetings (pos event) (pos first) (pos second) score ++ after) =
      those ∙ ap (λ ms. before ++ (ms ++ after)) ends in
      let are = next before after (record { of_first = rw here at firsts_is; of_second = rw here at seconds_is }) in
      rw (here, there, are.of_first, are.of_second)
      (rows_instead before (meetings (pos event) (pos first) (pos second) before_score)
      (meetings (pos event) (pos first) (pos second) score) after refl)
