-- Games whose side to move has lost by time, and their rows.
use Rattle.std.proofs.Common.{◌≡◌, ◌≢◌, ℕ, suc, ◌-◌, List, [], ◌∷◌, ◌++◌, map, pos, Some, None, Bool}
use Rattle.std.proofs.Common.{true, false, not, ◌&&◌, refl, ap, sym, ◌∙◌}
use Rattle.std.specs.Prelude.{slice_set, is_some, nat_lt, if◌then◌else◌}
use Rattle.std.proofs.lemmas.Bool.{and_parts, not-true}
use Rattle.sqlite_value.specs.declared.value.Value.TheVariants.{Text}
use Rattle.sqlite.specs.Values.{or_null}
use Rattle.sqlite.specs.Order.{Row}
use Rattle.squares.specs.declared.sides.Score.{Score}
use Rattle.squares.specs.declared.sides.Side.{Side}
use Rattle.squares.specs.Sides.{loses, score_text}
use Rattle.squares.specs.declared.draughts.moves.DMove.{DMove}
use Rattle.squares.specs.declared.shogi.moves.SMove.{SMove}
use Rattle.club_rules.specs.GameRules.{GameRules}
use Rattle.club_core.specs.declared.rows.GameEnd.TheVariants.{Outside}
use Rattle.club_requests.specs.declared.outside_end.OutsideEnd.TheVariants.{Time}
use Rattle.club_core.specs.Events.{Event, Terms}
use Rattle.club_core.specs.Game.{Game, left_of, clocks_of, turn_of, rule_end, end_of, end_with, result_of}
use Rattle.club_core.specs.Game.{score_with}
use Rattle.club_core.specs.Rulings.{verdict_of}
use Rattle.std.specs.Prelude.{Option}
use Rattle.std.specs.Option.{option_map}
use Rattle.club_core.specs.State.{draughts, shogi, place, terms_at, is_late_any, swept_any}
use Rattle.club_core.specs.Step.{is_late, ended, swept}
use Rattle.club_core.proofs.Proved.{AreRules, not-some, no-rule-end, turn-of-game, verdict-alone}
use Rattle.club_games.specs.internal.DraughtsLaws.{draughts-numbers_are_few}
use Rattle.club_games.specs.internal.ShogiLaws.{shogi-numbers_are_few}
use Rattle.club_rows.specs.Club.{ClubGame, ClubState, IsClub, both_games}
use Rattle.club_rows.specs.internal.Columns.{Columns, IsReadAs, columns_of, stored_cells}
use Rattle.club_rows.specs.internal.LegalRows.{IsRecordOf}
use Rattle.club_rows.specs.Scores.{Meeting, meetings, meetings_of, meetings_in}
use Rattle.club_rows.specs.Tables.{end_name_text, game_row}
use Rattle.club_rows.specs.Tables.{row_of_game, rows_of_moves, rows_of_rulings, rows_of_seen, gathered_from}
use Rattle.club_rows.specs.Tables.{ruling_rows}
use Rattle.club_rows.proofs.Proved.{columns-are, draughts_laws, in_draughts, in_shogi, met_ended, met_running}
use Rattle.club_rows.proofs.Proved.{none-read, rulings-stay, shogi_laws}
use Rattle.store_tables.specs.Cells.{game_cells}
use Rattle.store_tables.specs.declared.rows.GameTableRow.{GameTableRow}
use Rattle.club_changes.specs.internal.Ended.{cells_lost}
use Rattle.club_changes.specs.internal.Late.{late_side}
use Rattle.club_changes.specs.internal.Swept.{LeavesOthers}
use Rattle.club_changes.proofs.GameRows.{is_record}
use Rattle.club_changes.proofs.PlayedLemmas.{rows_stay}
use Rattle.club_changes.proofs.PutSame.{if_same}

then_some : {A : Type 0} (b : Bool) (x y : A) → (if b then Some x else None) ≡ Some y → (b ≡ true) × (y ≡ x)
then_some true x y is = (refl, cc)
then_some false x y is = cc

then_none : {A : Type 0} (b : Bool) (x : A) → (if b then Some x else None) ≡ None → b ≡ false
then_none true x is = cc
then_none false x is = refl

some-mapped : {A B : Type 0} (f : A → B) (o : Option A) → is_some (option_map f o) ≡ is_some o
some-mapped f None = refl
some-mapped f (Some x) = refl

-- ---- what a game's row tells of a sweep

-- a game with these columns that has not ended is late and ends so; what it meets, and its row, where it has ended
pub record IsLost (late : Bool) (c : Columns) (met met_after : List Meeting) (row_after : Row) (row : GameTableRow)
    (score : Score) : Type 0 where
  pub late_is : late ≡ true
  pub cells : cells_lost row score ≡ row_after
  pub apart : c.first ≢ c.second
  pub running : met ≡ []
  pub meets : met_after ≡ meetings (pos c.event) (pos c.first) (pos c.second) (Some score)

-- the side that the columns show as late, or none, tells whether the game is late
pub record TellsLate (moment : ℕ) (late : Bool) (c : Columns) (met met_after : List Meeting) (row_after : Row)
    (row : GameTableRow) : Type 0 where
  pub in_time : late_side c moment ≡ None → late ≡ false
  pub lost : (side : Side) (score : Score) → late_side c moment ≡ Some side → score ≡ loses side
      → IsLost late c met met_after row_after row score

-- ---- one game

module _ {P M E T : Type 0} (laws : GameRules P M E T) (are : AreRules laws) (events : List Event) (id moment : ℕ)
    (game : Game M) (row : GameTableRow) (is : IsRecordOf laws (terms_at (place events game.event)) id row game) where
  abbrev its_terms : Terms
  its_terms = terms_at (place events game.event)

  abbrev late : Bool
  late = is_late laws its_terms game moment

  abbrev game_after : Game M
  game_after = swept laws its_terms game moment

  abbrev turn : Side
  turn = turn_of laws game

  abbrev its_columns : Columns
  its_columns = columns_of laws its_terms id game

  abbrev row_of : Game M → Row
  row_of g = game_row laws (terms_at (place events g.event)) id g

  side_is : late_side its_columns moment ≡ (if late then Some turn else None)
  side_is =
      let clocks = clocks_of game its_terms in
      let side = sym (turn-of-game laws are.turn_passes are.first_starts game is.legal.line.legal) in
      let over = some-mapped (end_name_text laws) (end_of laws game) in
      λ i. if not (over i) && nat_lt (left_of (side i) clocks) (moment - clocks.since) then Some (side i) else None

  end_is : end_of laws game ≡ None → end_of laws (ended game Time) ≡ Some (Outside Time)
  end_is running =
      let no_rule = no-rule-end (rule_end laws game) (verdict_of game.rulings) game.outside running in
      let no_verdict = verdict-alone (rule_end laws game) (verdict_of game.rulings) game.outside running in
      λ i. end_with (no_rule i) (no_verdict i) (Some Time)

  result_is : end_of laws game ≡ None → result_of laws (ended game Time) ≡ Some (loses turn)
  result_is running = ap (λ e. score_with laws e turn) (end_is running)

  -- the cells of its end are put into the row
  lost_cells : end_of laws game ≡ None → cells_lost row (loses turn) ≡ row_of (ended game Time)
  lost_cells running =
      let end = ap (or_null (λ e. Text (end_name_text laws e))) (sym (end_is running)) in
      let result = ap (or_null (λ score. Text (score_text score))) (sym (result_is running)) in
      λ i. slice_set (slice_set (is.row i) 12 (end i)) 13 (result i)

  is_lost : late ≡ true → IsLost late its_columns (meetings_of laws game) (meetings_of laws game_after)
      (row_of game_after) row (loses turn)
  is_lost late_is =
      let running = not-some (end_of laws game) (not-true _ (and_parts _ _ late_is).0) in
      let now : game_after ≡ ended game Time = ap (λ b. if b then ended game Time else game) late_is in
      record {
        late_is = late_is;
        cells = lost_cells running ∙ ap row_of (sym now);
        apart = is.legal.players;
        running = met_running laws game running;
        meets = ap (meetings_of laws) now
            ∙ met_ended laws (ended game Time) (Outside Time) (Some (loses turn)) (end_is running) (result_is running);
      }

  tells : (c : Columns) → game_cells row ≡ stored_cells c
      → TellsLate moment late c (meetings_of laws game) (meetings_of laws game_after) (row_of game_after) row
  tells c read = rw (columns-are laws its_terms id game row is c read) (record {
    in_time = λ none. then_none late turn (sym side_is ∙ none);
    lost = λ side score some loss.
        let (late_is, by) = then_some late turn side (sym side_is ∙ some) in rw (loss, by) (is_lost late_is);
  })

-- ---- a game of the club

module _ (s : ClubState) (is_club : IsClub s) (id : ℕ) where
  -- of its row something is read
  pub was_read : (g : ClubGame) (row : GameTableRow) → place s.games id ≡ Some g
      → game_cells row ≡ row_of_game both_games s.events id g → IsReadAs (game_cells row) None → ⊥
  was_read (draughts game) row at cells = none-read both_games.draughts (terms_at (place s.events game.event)) id game
      row (is_record s is_club in_draughts id game row at cells) draughts-numbers_are_few
  was_read (shogi game) row at cells = none-read both_games.shogi (terms_at (place s.events game.event)) id game row
      (is_record s is_club in_shogi id game row at cells) shogi-numbers_are_few

  abbrev pub TellsLateIn : ℕ → ClubGame → GameTableRow → Columns → Type 0
  TellsLateIn moment g row c =
      let after = swept_any both_games s moment g in
      TellsLate moment (is_late_any both_games s moment g) c (meetings_in both_games g) (meetings_in both_games after)
      (row_of_game both_games s.events id after) row

  pub tells_late : (moment : ℕ) (g : ClubGame) (row : GameTableRow) (c : Columns) → place s.games id ≡ Some g
      → game_cells row ≡ row_of_game both_games s.events id g → game_cells row ≡ stored_cells c
      → TellsLateIn moment g row c
  tells_late moment (draughts game) row c at cells = tells both_games.draughts draughts_laws s.events id moment game row
      (is_record s is_club in_draughts id game row at cells) c
  tells_late moment (shogi game) row c at cells = tells both_games.shogi shogi_laws s.events id moment game row
      (is_record s is_club in_shogi id game row at cells) c

module _ (s : ClubState) (moment : ℕ) where
  -- a game that is not late stays
  pub in_time_stays : (g : ClubGame) → is_late_any both_games s moment g ≡ false → swept_any both_games s moment g ≡ g
  in_time_stays (draughts game) late = ap (λ b. draughts (if b then ended game Time else game)) late
  in_time_stays (shogi game) late = ap (λ b. shogi (if b then ended game Time else game)) late

-- ---- what a sweep leaves of a game

-- what does not look at how a game ended stays
swept_keeps : (s : ClubState) (moment : ℕ) (f : ClubGame → List Row)
    → ((g : Game DMove) → f (draughts (ended g Time)) ≡ f (draughts g))
    → ((g : Game SMove) → f (shogi (ended g Time)) ≡ f (shogi g))
    → (g : ClubGame) → f (swept_any both_games s moment g) ≡ f g
swept_keeps s moment f one other (draughts game) = if_same (λ g. f (draughts g))
    (is_late_any both_games s moment (draughts game)) (ended game Time) game (one game)
swept_keeps s moment f one other (shogi game) = if_same (λ g. f (shogi g))
    (is_late_any both_games s moment (shogi game)) (ended game Time) game (other game)

-- the rows of elements that change and keep their rows
pub gathered_stay : {A : Type 0} (rows : ℕ → A → List Row) (after : A → A)
    → ((id : ℕ) (x : A) → rows id (after x) ≡ rows id x) → (id : ℕ) (xs : List A)
    → gathered_from rows id (map after xs) ≡ gathered_from rows id xs
gathered_stay rows after same id [] = refl
gathered_stay rows after same id (x ∷ xs) =
    let here = same id x in
    let rest = gathered_stay rows after same (suc id) xs in
    λ i. here i ++ rest i

-- a game that a sweep ends has no verdict, so that the rows of its rulings stay
ruled_stay : {P M E T : Type 0} (laws : GameRules P M E T) (terms : Terms) (id moment : ℕ) (game : Game M) (late : Bool)
    → is_late laws terms game moment ≡ late
    → ruling_rows id (if late then ended game Time else game) ≡ ruling_rows id game
ruled_stay laws terms id moment game true late =
    let running = not-some (end_of laws game) (not-true _ (and_parts _ _ late).0) in
    rulings-stay id 1 (Some Time) game.outside game.rulings
    (verdict-alone (rule_end laws game) (verdict_of game.rulings) game.outside running)
ruled_stay laws terms id moment game false late = refl

swept_rulings : (s : ClubState) (moment id : ℕ) (g : ClubGame)
    → rows_of_rulings id (swept_any both_games s moment g) ≡ rows_of_rulings id g
swept_rulings s moment id (draughts game) =
    ruled_stay both_games.draughts (terms_at (place s.events game.event)) id moment game
    (is_late_any both_games s moment (draughts game)) refl
swept_rulings s moment id (shogi game) =
    ruled_stay both_games.shogi (terms_at (place s.events game.event)) id moment game
    (is_late_any both_games s moment (shogi game)) refl

-- a sweep leaves the tables of members, events, challenges, moves, positions and rulings as they are
pub leaves_others : (s : ClubState) (moment : ℕ) → LeavesOthers s moment
leaves_others s moment = record {
  members_stay = refl;
  events_stay = refl;
  rules_stay = refl;
  challenges_stay = refl;
  moves_stay = gathered_stay (rows_of_moves both_games s.events) (swept_any both_games s moment)
      (λ id. swept_keeps s moment (rows_of_moves both_games s.events id)
      (λ g. rows_stay both_games.draughts (terms_at (place s.events g.event)) id (ended g Time) g refl refl refl)
      (λ g. rows_stay both_games.shogi (terms_at (place s.events g.event)) id (ended g Time) g refl refl refl)) 1 s.games;
  seen_stays = gathered_stay (rows_of_seen both_games) (swept_any both_games s moment)
      (λ id. swept_keeps s moment (rows_of_seen both_games id) (λ g. refl) (λ g. refl)) 1 s.games;
  keys_stay = refl;
  rulings_stay = gathered_stay rows_of_rulings (swept_any both_games s moment) (swept_rulings s moment) 1 s.games;
  closings_stay = refl;
}
