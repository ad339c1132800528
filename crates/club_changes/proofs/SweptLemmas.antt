-- A sweep, game by game: the rows so far, and the scores of the club in which these games have ended.
use Rattle.std.proofs.Common.{◌≡◌, ◌≢◌, ℕ, ◌+◌, ◌≤◌, ◌^◌, List, [], ◌∷◌, ◌++◌, length, map, take, drop, pos}
use Rattle.std.proofs.Common.{Option, Some, None, Bool, false, refl, ap, sym, subst, ◌∙◌, arith, inl, inr, append_assoc}
use Rattle.std.proofs.Common.{length-append}
use Rattle.std.specs.Prelude.{slice_get}
use Rattle.std.specs.List.{flat_map}
use Rattle.std.proofs.Math.Seq.{take-length}
use Rattle.std.proofs.lemmas.Grind.{flat_map-append}
use Rattle.std.proofs.lemmas.List.{append-nil, drop_all, length-map, length-take-le, map-append}
use Rattle.std.proofs.lemmas.Option.{slice_get_within}
use Rattle.std.proofs.lemmas.List.Sums.{count_by-le-length}
use Rattle.sqlite.specs.Order.{Row}
use Rattle.squares.specs.declared.sides.Score.{Score}
use Rattle.squares.specs.declared.sides.Side.{Side}
use Rattle.squares.specs.Sides.{loses}
use Rattle.store_tables.specs.Cells.{game_cells}
use Rattle.store_tables.specs.internal.Cells.{score_cells}
use Rattle.store_tables.specs.Changes.{HaveSame}
use Rattle.store_tables.specs.internal.Changes.{put_rows}
use Rattle.store_tables.specs.internal.Content.{put}
use Rattle.store_tables.specs.declared.rows.GameTableRow.{GameTableRow}
use Rattle.store_tables.specs.declared.rows.ScoreRow.{ScoreRow}
use Rattle.store_tables.proofs.Proved.{same_then, put_had, put_kept, altered}
use Rattle.club_core.specs.State.{place, is_late_any, swept_any}
use Rattle.club_rows.specs.Club.{ClubGame, ClubState, IsClub, both_games, tables}
use Rattle.club_rows.specs.internal.Columns.{Columns, IsReadAs, stored_cells}
use Rattle.club_rows.specs.Scores.{Meeting, meetings, meetings_in, score_rows, scores_in}
use Rattle.club_rows.specs.Tables.{gathered_from, row_of_game}
use Rattle.club_rows.specs.declared.scores.Pair.{Pair}
use Rattle.club_rows.specs.declared.scores.ScoreSums.{ScoreSums}
use Rattle.club_changes.specs.internal.Ended.{cells_lost}
use Rattle.club_changes.specs.internal.Late.{late_side}
use Rattle.club_changes.specs.internal.Standing.{AreStanding, PutsRows}
use Rattle.club_changes.specs.internal.Swept.{IsSwept}
use Rattle.club_changes.specs.declared.swept.rows.SweptRows.{SweptRows}
use Rattle.club_changes.proofs.FewLemmas.{meets_few, parts_length}
use Rattle.club_changes.proofs.FoundPeople.{place_next}
use Rattle.club_changes.proofs.NextRows.{first_of_game}
use Rattle.club_changes.proofs.LateGames.{TellsLateIn, in_time_stays, tells_late, was_read}
use Rattle.club_changes.proofs.PlacedIds.{numbered_at, numbered_length, take_next, drop_next}
use Rattle.club_changes.proofs.PlacedIds.{gathered_last, row_if, passing_count}
use Rattle.club_changes.proofs.PlacedIds.{passing_alter}

-- ---- rows that are put in two turns

module _ (key : List ℕ) where
  put_then : (rows more table : List Row) → put_rows key (rows ++ more) table
      ≡ put_rows key more (put_rows key rows table)
  put_then [] more table = refl
  put_then (row ∷ rows) more table = put_then rows more (put key row table)

  rows_same : (rows one other : List Row) → HaveSame one other
      → HaveSame (put_rows key rows one) (put_rows key rows other)
  rows_same [] one other same = same
  rows_same (row ∷ rows) one other same = rows_same rows (put key row one) (put key row other) (record {
    there = λ z h. elim (put_had key row one z h)
        [ inl is ↦ inl is | inr was ↦ put_kept key row other z (same.there z was.0) was.1 ];
    back = λ z h. elim (put_had key row other z h)
        [ inl is ↦ inl is | inr was ↦ put_kept key row one z (same.back z was.0) was.1 ];
  })

  put_on : (table was now rows more all : List Row) → all ≡ rows ++ more → HaveSame (put_rows key rows table) was
      → HaveSame (put_rows key more was) now → HaveSame (put_rows key all table) now
  put_on table was now rows more all is first second =
      rw (is, put_then rows more table)
      (same_then (put_rows key more (put_rows key rows table)) (put_rows key more was) now
      (rows_same more (put_rows key rows table) was first) second)

-- ---- so many games of a club

module _ (s : ClubState) (moment : ℕ) where
  abbrev late : ClubGame → Bool
  late = is_late_any both_games s moment

  abbrev after : ClubGame → ClubGame
  after = swept_any both_games s moment

  abbrev row : ℕ → ClubGame → Row
  row = row_of_game both_games s.events

  abbrev meets : List ClubGame → List Meeting
  meets = flat_map (meetings_in both_games)

  -- the rows of those of the games that end
  abbrev ended_rows : List ClubGame → List Row
  ended_rows games = gathered_from (row_if row late after) 1 games

  -- the ended games where a sweep has come so far
  abbrev met : ℕ → List Meeting
  met n = meets (map after (take n s.games)) ++ meets (drop n s.games)

-- where the game of these columns ends so, the rows of its players' scores are put
abbrev pub Puts : Columns → Score → (sums sums_now : Pair → Option ScoreSums) → (changed changed_now : List ScoreRow)
    → Type 0
Puts c score sums sums_now changed changed_now =
    (left right : List Meeting) → c.first ≢ c.second → AreStanding sums (score_rows (left ++ right))
    → PutsRows (score_rows (left ++ right))
    (score_rows (left ++ (meetings (pos c.event) (pos c.first) (pos c.second) (Some score) ++ right))) sums_now changed
    changed_now

-- what was put of scores makes the table of these meetings, and these sums stand for it
abbrev Scores : ClubState → List ScoreRow → (Pair → Option ScoreSums) → List Meeting → Type 0
Scores s changed sums ms =
    HaveSame (put_rows (0 ∷ 1 ∷ 2 ∷ []) (map score_cells changed) (scores_in both_games s.games)) (score_rows ms)
    × AreStanding sums (score_rows ms)

-- what was made of the first games, and what stands then
pub record IsSweptTo (s : ClubState) (moment n : ℕ) (ended : List GameTableRow) (changed : List ScoreRow)
    (sums : Pair → Option ScoreSums) : Type 0 where
  pub ended_are : map game_cells ended ≡ ended_rows s moment (take n s.games)
  pub scores : Scores s changed sums (met s moment n)

module _ (s : ClubState) (moment : ℕ) (is_club : IsClub s) (n : ℕ) (ended : List GameTableRow)
    (changed : List ScoreRow) (sums : Pair → Option ScoreSums) (now : IsSweptTo s moment n ended changed sums) where
  -- the games that end are no more than those of the club
  pub ended_few : length ended ≤ 5000
  ended_few =
      let games : length s.games ≤ 5000 = is_club.game_count in
      let counted = sym (length-map ended game_cells)
      ∙ (ap length now.ended_are ∙ passing_count (row s moment) (late s moment) (after s moment) 1 (take n s.games)) in
      let few = count_by-le-length (late s moment) (take n s.games) in
      let parts = parts_length n s.games in
      omega (arith, games, counted, few, parts)

  -- the sums of two players are not those of very many games
  pub sums_few : ((ms : List Meeting) → AreStanding sums (score_rows ms) → 2 ^ 61 ≤ length ms) → ⊥
  sums_few many =
      let long = many (met s moment n) now.scores.1 in
      let games : length s.games ≤ 5000 = is_club.game_count in
      let taken = meets_few (map (after s moment) (take n s.games)) in
      let left = meets_few (drop n s.games) in
      let count = length-map (take n s.games) (after s moment) in
      let parts = parts_length n s.games in
      let both = length-append (meets s moment (map (after s moment) (take n s.games)))
      (meets s moment (drop n s.games)) in
      omega (arith, long, games, taken, left, count, parts, both)

module _ (s : ClubState) (moment : ℕ) where
  module _ (is_club : IsClub s) (games : List GameTableRow) (rows_are : map game_cells games ≡ tables s 10) (n : ℕ)
      (game : GameTableRow) (at : slice_get games n ≡ Some game) where
    -- the game of the row
    game_here : (g : ClubGame) × (slice_get s.games n ≡ Some g) × (game_cells game ≡ row s moment (1 + n) g)
    game_here = numbered_at (row s moment) game_cells 1 games s.games rows_are n game at

    abbrev g : ClubGame
    g = game_here.0

    stands : slice_get s.games n ≡ Some g
    stands = game_here.1

    in_place : place s.games (1 + n) ≡ Some g
    in_place = place_next s.games n ∙ stands

    -- something is read of the row
    pub read_here : IsReadAs (game_cells game) None → ⊥
    read_here = was_read s is_club (1 + n) g game in_place game_here.2

    module _ (c : Columns) (read : game_cells game ≡ stored_cells c) where
      abbrev before : List Meeting
      before = meets s moment (map (after s moment) (take n s.games))

      abbrev later : List Meeting
      later = meets s moment (drop (n + 1) s.games)

      met_here : met s moment n ≡ before ++ (meetings_in both_games g ++ later)
      met_here = ap (λ l. before ++ meets s moment l) (drop_next s.games n g stands)

      met_then : met s moment (n + 1) ≡ before ++ (meetings_in both_games (after s moment g) ++ later)
      met_then = rw (take_next s.games n g stands, map-append, flat_map-append, append-nil, append_assoc)

      ended_then : ended_rows s moment (take (n + 1) s.games) ≡ ended_rows s moment (take n s.games)
          ++ row_if (row s moment) (late s moment) (after s moment) (1 + n) g
      ended_then =
          let within = slice_get_within s.games n g stands in
          rw (take_next s.games n g stands, gathered_last, length-take-le n s.games (omega (arith, within)))

      tells : TellsLateIn s is_club (1 + n) moment g game c
      tells = tells_late s is_club (1 + n) moment g game c in_place game_here.2 read

      -- a game that is not late stays
      pub stays_next : (ended : List GameTableRow) (changed : List ScoreRow) (sums : Pair → Option ScoreSums)
          → late_side c moment ≡ None → IsSweptTo s moment n ended changed sums
          → IsSweptTo s moment (n + 1) ended changed sums
      stays_next ended changed sums none now =
          let in_time : late s moment g ≡ false = tells.in_time none in
          let same = met_here
          ∙ (ap (λ x. before ++ (meetings_in both_games x ++ later)) (sym (in_time_stays s moment g in_time))
          ∙ sym met_then) in
          record {
            ended_are = now.ended_are ∙ sym (rw in_time at ended_then ∙ append-nil _);
            scores = subst (Scores s changed sums) same now.scores;
          }

      -- a game that is late ends
      pub ends_next : (score : Score) (side : Side) (lost : GameTableRow) (ended ended_now : List GameTableRow)
          (changed changed_now : List ScoreRow) (sums sums_now : Pair → Option ScoreSums)
          → late_side c moment ≡ Some side → score ≡ loses side → game_cells lost ≡ cells_lost game score
          → ended_now ≡ ended ++ lost ∷ [] → Puts c score sums sums_now changed changed_now
          → IsSweptTo s moment n ended changed sums → IsSweptTo s moment (n + 1) ended_now changed_now sums_now
      ends_next score side lost ended ended_now changed changed_now sums sums_now shown loss lost_is pushed puts now =
          let is_lost = tells.lost side score shown loss in
          let was = met_here ∙ ap (λ ms. before ++ (ms ++ later)) is_lost.running in
          let then = met_then ∙ ap (λ ms. before ++ (ms ++ later)) is_lost.meets in
          let (made, stood) = subst (Scores s changed sums) was now.scores in
          let put_them = puts before later is_lost.apart stood in
          let makes = put_on (0 ∷ 1 ∷ 2 ∷ []) (scores_in both_games s.games) (score_rows (before ++ later)) _
          (map score_cells changed) put_them.rows (map score_cells changed_now) put_them.more made put_them.makes in
          record {
            ended_are = ap (map game_cells) pushed
                ∙ (map-append game_cells ended (lost ∷ [])
                ∙ ((λ j. now.ended_are j ++ lost_is j ∷ [])
                ∙ (ap (λ (r : Row). ended_rows s moment (take n s.games) ++ r ∷ []) is_lost.cells
                ∙ sym (rw is_lost.late_is at ended_then))));
            scores = subst (Scores s changed_now sums_now) (sym then) (makes, put_them.standing);
          }

  -- all games were looked at
  pub swept_all : (games : List GameTableRow) (n : ℕ) (rows : SweptRows) (sums : Pair → Option ScoreSums)
      → map game_cells games ≡ tables s 10 → n ≡ length games → rows.count ≡ length rows.games.items
      → IsSweptTo s moment n rows.games.items rows.scores.items sums → IsSwept s moment rows
  swept_all games n rows sums rows_are end counted now =
      let long = sym (length-map games game_cells) ∙ (ap length rows_are ∙ numbered_length (row s moment) 1 s.games) in
      let taken : take n s.games ≡ s.games = ap (λ k. take k s.games) (end ∙ long) ∙ take-length s.games in
      let left : drop n s.games ≡ [] = drop_all n s.games (omega (arith, end, long)) in
      let all : met s moment n ≡ meets s moment (map (after s moment) s.games) = rw (taken, left, append-nil) in
      let ended = now.ended_are ∙ ap (ended_rows s moment) taken in
      record {
        count_is = counted
            ∙ (sym (length-map rows.games.items game_cells)
            ∙ (ap length ended ∙ passing_count (row s moment) (late s moment) (after s moment) 1 s.games));
        games_are = rw ended (altered (0 ∷ []) (ended_rows s moment s.games) _ _
            (passing_alter (row s moment) (late s moment) (after s moment) (in_time_stays s moment)
            (first_of_game both_games s.events) s.games));
        scores_are = (subst (Scores s rows.scores.items sums) all now.scores).0;
      }
