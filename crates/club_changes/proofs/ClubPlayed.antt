-- What is decided of a command on a game of the club, and the rows of a game that starts.
use Rattle.std.proofs.Common.{◌≡◌, Bool, inl, inr, ℕ, zero, suc, ◌+◌, ◌-◌, ◌<◌, ◌≤◌, ◌^◌, List, [], ◌∷◌, ◌++◌, length}
use Rattle.std.proofs.Common.{Option, Some, None, refl, ap, sym, subst, ◌∙◌, arith}
use Rattle.std.specs.Prelude.{slice_get, slice_set, IsTrue}
use Rattle.squares.specs.declared.sides.Score.{Score}
use Rattle.club_rules.specs.declared.names.GameKind.{GameKind}
use Rattle.club_rules.specs.declared.names.GameKind.TheVariants.{Draughts, Shogi}
use Rattle.club_rules.specs.GameRules.{GameRules}
use Rattle.club_requests.specs.declared.answers.Outcome.TheVariants as given_is
use Rattle.club_core.specs.declared.rows.GameEnd.{GameEnd}
use Rattle.club_core.specs.declared.rows.GameRow.{GameRow}
use Rattle.club_requests.specs.declared.requests.Caller.{Caller}
use Rattle.club_requests.specs.Limits.{is_budget, is_increment}
use Rattle.club_requests.specs.Outcome.{Outcome, accepted, repeated, refused, map_outcome}
use Rattle.club_core.specs.Answer.{answered}
use Rattle.club_core.specs.Events.{Event, Terms}
use Rattle.club_core.specs.Game.{Game, clocks_of, end_of, result_of}
use Rattle.club_core.specs.Legal.{IsLegalGame}
use Rattle.club_core.specs.LegalState.{IsLegalEvent, IsLegalIn, IsGameOf}
use Rattle.club_core.specs.Step.{GameCommand, no_game_refusal, game_step}
use Rattle.club_core.specs.declared.seats.Pairing.{Pairing}
use Rattle.club_core.specs.State.{seated, seated_as, state_after, place, kind_at, terms_at, with_game, step_game}
use Rattle.club_core.specs.State.{on_game}
use Rattle.club_core.specs.View.{IsRowOf}
use Rattle.club_laws.proofs.Proved.{in-place}
use Rattle.club_rows.specs.internal.Made.{made_row}
use Rattle.club_rows.specs.Scores.{Meeting, meetings_in, scores_in}
use Rattle.club_rows.specs.Tables.{game_row, move_rows, number, row_of_game, rows_of_moves, rows_of_rulings, rows_of_seen}
use Rattle.club_rows.specs.Tables.{ruling_rows}
use Rattle.club_rows.proofs.Proved.{Kind, met_running, met_ended, scores_next, scores_stay, entry-alters, seen-stay}
use Rattle.club_rows.proofs.Proved.{seen-table-set}
use Rattle.store_tables.specs.Cells.{game_cells}
use Rattle.store_tables.specs.internal.Cells.{score_cells}
use Rattle.store_tables.specs.declared.rows.GameTableRow.{GameTableRow}
use Rattle.store_tables.specs.declared.rows.Changes.{Changes}
use Rattle.club_changes.specs.declared.decided.CommandEffect.{CommandEffect}
use Rattle.club_rows.specs.Club.{both_games, ClubState, IsClub, tables}
use Rattle.sqlite.specs.Order.{Row}
use Rattle.club_changes.specs.Steps.{HaveSame}
use Rattle.club_changes.specs.internal.Steps.{caller_step, Makes, Puts, PutsScoresOf, PutsMove, PutsRow, PutsGame}
use Rattle.club_changes.specs.internal.Steps.{no_rows, IsDecided, IsDecidedIn, first_row, first_seen_rows}
use Rattle.club_changes.specs.internal.Steps.{started}
use Rattle.club_changes.specs.internal.Steps.{started_seen}
use Rattle.store_tables.specs.internal.Changes.{put_rows}
use Rattle.store_tables.proofs.Proved.{altered}
use Rattle.club_changes.proofs.PutSame.{◌&◌, same_by, same_itself, one_row_more, row_replaced, rows_kept}
use Rattle.club_changes.proofs.NextRows.{fresh, first_of_game}
use Rattle.club_changes.proofs.OutcomeLemmas.{none_decided, answered_mapped, nothing_made, moment_put}
use Rattle.club_changes.proofs.ChangedLemmas.{all_changed}
use Rattle.club_changes.proofs.PlayedLemmas.{budget_most, clocks_within}

-- ---- in a game of the club

pub place_at : {A : Type 0} (xs : List A) (id : ℕ) (x : A) → place xs id ≡ Some x → (n : ℕ) × (id ≡ 1 + n)
    × (slice_get xs n ≡ Some x)
place_at xs zero x at = cc
place_at xs (suc n) x at = (n, omega arith, at)

-- a game of the club by its terms
pub record IsGameIn {P M E T : Type 0} (laws : GameRules P M E T) (kind : GameKind) (s : ClubState) (terms : Terms)
    (g : Game M) : Type 0 where
  pub budget : IsTrue (is_budget terms.budget)
  pub increment : IsTrue (is_increment terms.increment)
  pub legal : IsLegalGame laws terms g
  pub of : IsGameOf laws kind s g

module _ {P M E T : Type 0} {laws : GameRules P M E T} {kind : GameKind} (k : Kind laws kind) (s : ClubState)
    (is_club : IsClub s) where
  pub game_is : (id : ℕ) (g : Game M) → place s.games id ≡ Some (k.into g)
      → IsGameIn laws kind s (terms_at (place s.events g.event)) g
  game_is id g at =
      let of : IsGameOf laws kind s g = k.legal s g
      (in-place (IsLegalIn both_games s) s.games id (k.into g) is_club.games at) in
      let event : IsLegalEvent of.event = in-place IsLegalEvent s.events g.event of.event is_club.events of.in_event in
      record {
        budget = rw of.in_event event.budget;
        increment = rw of.in_event event.increment;
        legal = rw of.in_event of.legal;
        of = of;
      }

  -- no game of the club has a moment after the last accepted command's
  pub no_later : (id : ℕ) (g : Game M) (terms : Terms) → place s.games id ≡ Some (k.into g)
      → (clocks_of g terms).since ≤ s.last
  no_later id g terms at =
      let game = game_is id g at in
      clocks_within g terms s.last game.of.start game.of.entries

module _ {P M E T : Type 0} {laws : GameRules P M E T} {kind : GameKind} (k : Kind laws kind) (s : ClubState) where
  abbrev meets : Game M → List Meeting
  meets g = meetings_in both_games (k.into g)

  -- the scores that are put make the table of the club with the game after the change
  module _ (n : ℕ) (g new : Game M) (at : slice_get s.games n ≡ Some (k.into g))
      (running : end_of laws g ≡ None) where
    none_before : meets g ≡ []
    none_before = k.scores g ∙ met_running laws g running

    pub scores_by_end : (end : Option (GameEnd E)) (score : Option Score) (rows : List Row) → end_of laws new ≡ end
        → result_of laws new ≡ score → PutsScoresOf (tables s 14) new.event new.first new.second end score rows
        → HaveSame (put_rows (0 ∷ 1 ∷ 2 ∷ []) rows (scores_in both_games s.games))
        (scores_in both_games (slice_set s.games n (k.into new)))
    scores_by_end None score rows is result none =
        rw none (same_by _ _ (sym (scores_stay both_games s.games n (k.into g) (k.into new) at
        (k.scores new ∙ (met_running laws new is ∙ sym none_before)))))
    scores_by_end (Some end) score rows is result put =
        let after = k.scores new ∙ met_ended laws new end score is result in
        rw put.rows_are
        (altered (0 ∷ 1 ∷ 2 ∷ []) (score_cells put.pair.first ∷ score_cells put.pair.second ∷ []) _ _
        (scores_next both_games s.games new.event new.first new.second score put.firsts put.seconds put.pair
        put.firsts_are put.seconds_are put.next n (k.into g) (k.into new) at none_before after))

  -- the club with the game after a change
  abbrev pub set_to : ℕ → ℕ → Game M → ClubState
  set_to n moment new = record s { last = moment; games = slice_set s.games n (k.into new) }

  -- the row of a game is that of its event's terms
  pub row_is : (n : ℕ) (g new : Game M) → new.event ≡ g.event
      → game_row laws (terms_at (place s.events g.event)) (1 + n) new
      ≡ row_of_game both_games s.events (1 + n) (k.into new)
  row_is n g new event = ap (λ e. game_row laws (terms_at (place s.events e)) (1 + n) new) (sym event)
      ∙ sym (k.row s.events (1 + n) new)

  pub moves_of_it : (n : ℕ) (g new : Game M) → new.event ≡ g.event
      → rows_of_moves both_games s.events (1 + n) (k.into new)
      ≡ move_rows laws (terms_at (place s.events g.event)) (1 + n) new
  moves_of_it n g new event =
      k.moves s.events (1 + n) new ∙ ap (λ e. move_rows laws (terms_at (place s.events e)) (1 + n) new) event

  pub rulings_of_it : (n : ℕ) (g new : Game M) → ruling_rows (1 + n) new ≡ ruling_rows (1 + n) g
      → rows_of_rulings (1 + n) (k.into new) ≡ rows_of_rulings (1 + n) (k.into g)
  rulings_of_it n g new same = k.rulings (1 + n) new ∙ (same ∙ sym (k.rulings (1 + n) g))

  -- the rows that are put make the tables of the club with the game after the move
  put_at : (n moment : ℕ) (g new : Game M) (c : Changes) → slice_get s.games n ≡ Some (k.into g)
      → PutsMove laws (terms_at (place s.events g.event)) (1 + n) moment (tables s 14) g new c
      → Makes s (set_to n moment new) (Some c)
  put_at n moment g new c at p =
      let made : Row = made_row (1 + n) p.reply moment in
      let row = row_is n g new p.event in
      let grown = moves_of_it n g new p.event
      ∙ (p.grown ∙ ap (λ rs. rs ++ made ∷ []) (sym (k.moves s.events (1 + n) g))) in
      let count = k.plies g in
      all_changed s (set_to n moment new) c moment _
      (subst (Puts c moment)
      (λ j. record no_rows { games = row j ∷ []; moves = made ∷ []; seen = p.seen ∷ []; scores = p.scores }) p.puts)
      (inr (refl, refl, refl))
      (moment_put s moment
      & same_itself _ & same_itself _ & same_itself _
      & one_row_more (rows_of_moves both_games s.events) s.games n (k.into g) (k.into new) at made grown
      (fresh both_games s n (k.into g) made (length g.entries + 1) at refl (ap number p.ply) (omega (arith, count)))
      & row_replaced (row_of_game both_games s.events) (first_of_game both_games s.events) s.games n (k.into g)
      (k.into new) at
      & altered (0 ∷ 1 ∷ []) (p.seen ∷ []) _ _
      (seen-table-set both_games s n (k.into g) (k.into new) moment (p.seen ∷ []) at
      (rw (k.seen (1 + n) g, k.seen (1 + n) new)
      (entry-alters laws (1 + n) g new p.entry p.seen p.entries p.seen_is)))
      & scores_by_end n g new at p.running (end_of laws new) (result_of laws new) p.scores refl refl p.scores_are
      & same_itself _ & same_itself _
      & rows_kept rows_of_rulings s.games n (k.into g) (k.into new) at (rulings_of_it n g new p.rulings)
      & same_itself _ & tt)

  -- and so do those of a game that changes without a move
  change_at : (n moment : ℕ) (g new : Game M) (c : Changes) → slice_get s.games n ≡ Some (k.into g)
      → PutsRow laws (terms_at (place s.events g.event)) (1 + n) moment (tables s 14) g new c
      → Makes s (set_to n moment new) (Some c)
  change_at n moment g new c at p =
      let row = row_is n g new p.event in
      let stays = moves_of_it n g new p.event ∙ (p.stays ∙ sym (k.moves s.events (1 + n) g)) in
      let seen = k.seen (1 + n) new ∙ (seen-stay laws (1 + n) new g p.entries ∙ sym (k.seen (1 + n) g)) in
      all_changed s (set_to n moment new) c moment _
      (subst (Puts c moment) (λ j. record no_rows { games = row j ∷ []; scores = p.scores }) p.puts)
      (inr (refl, refl, refl))
      (moment_put s moment
      & same_itself _ & same_itself _ & same_itself _
      & rows_kept (rows_of_moves both_games s.events) s.games n (k.into g) (k.into new) at stays
      & row_replaced (row_of_game both_games s.events) (first_of_game both_games s.events) s.games n (k.into g)
      (k.into new) at
      & rows_kept (rows_of_seen both_games) s.games n (k.into g) (k.into new) at seen
      & scores_by_end n g new at p.running (end_of laws new) (result_of laws new) p.scores refl refl p.scores_are
      & same_itself _ & same_itself _
      & rows_kept rows_of_rulings s.games n (k.into g) (k.into new) at (rulings_of_it n g new p.rulings)
      & same_itself _ & tt)

  put_game : (id moment : ℕ) (g : Game M) → place s.games id ≡ Some (k.into g)
      → (o : Outcome (Game M)) (c : Option Changes)
      → PutsGame laws (terms_at (place s.events g.event)) id moment (tables s 14) g o c
      → Makes s (state_after s (map_outcome (λ new. with_game s moment id (k.into new)) o)) c
  put_game id moment g at (accepted new reply) (Some c) p =
      let (n, id_is, stands) = place_at s.games id (k.into g) at in
      let back : (1 + n) - 1 ≡ n = omega arith in
      let there : n ≡ id - 1 = sym (ap (λ i. i - 1) id_is ∙ back) in
      subst (λ m. Makes s (set_to m moment new) (Some c)) there
      (elim (rw id_is at p) [
        | inl made ↦ put_at n moment g new c stands made
        | inr row ↦ change_at n moment g new c stands row
      ])
  put_game id moment g at (repeated reply) None p = nothing_made s
  put_game id moment g at (refused refusal) None p = nothing_made s
  put_game id moment g at (accepted new reply) None p = absurd p
  put_game id moment g at _ (Some c) p = absurd p

  -- what was decided in the game was decided in the club
  pub decided_club : (id moment : ℕ) (who : Caller) (command : GameCommand) (g : Game M) (d : CommandEffect)
      → place s.games id ≡ Some (k.into g)
      → IsDecidedIn laws (terms_at (place s.events g.event)) id moment (tables s 14) g
      (game_step laws (terms_at (place s.events g.event)) g moment who command) d
      → IsDecided s (caller_step s moment who (on_game id command)) d
  decided_club id moment who command g d at decided =
      let f = λ (new : Game M). with_game s moment id (k.into new) in
      let o = game_step laws (terms_at (place s.events g.event)) g moment who command in
      let step = ap (step_game both_games s moment id who command) at ∙ k.step s moment id who command g in
      record {
        answer = decided.answer ∙ (sym (answered_mapped s f o) ∙ ap answered (sym step));
        makes = subst (λ x. Makes s (state_after s x) d.changes) (sym step)
            (put_game id moment g at o d.changes decided.puts);
      }

-- ---- a game that starts

pub seated_cells : {P M E T : Type 0} (laws : GameRules P M E T) (r : GameTableRow) (row : GameRow E) (terms : Terms)
    (p : Pairing) (id : ℕ) (key : Option (List ℕ)) (moment : ℕ) → IsTrue (is_budget terms.budget)
    → ((increment : ℕ) (declares : Bool)
    → IsRowOf laws (record { budget = terms.budget; increment = increment; declares = declares }) (seated key p moment)
    row)
    → (row.left_first < 2 ^ 63 → row.left_second < 2 ^ 63 → (terms : Terms) (game : Game M)
    → IsRowOf laws terms game row → game_cells r ≡ game_row laws terms id game)
    → game_cells r ≡ game_row laws terms id (seated key p moment)
seated_cells {P} {M} laws r row terms p id key moment legal shows cells =
    let is_row = shows terms.increment terms.declares in
    let budget : terms.budget ≤ 31536000 = budget_most terms.budget legal in
    let first : row.left_first ≡ terms.budget = ap (λ c. c.left_first) is_row.clocks in
    let second : row.left_second ≡ terms.budget = ap (λ c. c.left_second) is_row.clocks in
    let start : Game M = seated key p moment in
    cells (omega (arith, first, budget)) (omega (arith, second, budget)) terms start is_row

pub started_first : (events : List Event) (p : Pairing) (id : ℕ) (key : Option (List ℕ)) (moment : ℕ) (kind : GameKind)
    → kind_at (place events p.event) ≡ kind → started events id key p moment
    ≡ first_row kind (terms_at (place events p.event)) id key p moment
started_first events p id key moment Draughts is =
    ap (λ k. row_of_game both_games events id (seated_as k key p moment)) is
started_first events p id key moment Shogi is = ap (λ k. row_of_game both_games events id (seated_as k key p moment)) is

pub started_seen_first : (events : List Event) (p : Pairing) (id : ℕ) (key : Option (List ℕ)) (moment : ℕ)
    (kind : GameKind) → kind_at (place events p.event) ≡ kind
    → first_seen_rows kind id key p moment ≡ started_seen events id key p moment
started_seen_first events p id key moment Draughts is =
    ap (λ k. rows_of_seen both_games id (seated_as k key p moment)) (sym is)
started_seen_first events p id key moment Shogi is =
    ap (λ k. rows_of_seen both_games id (seated_as k key p moment)) (sym is)

-- ---- a game that there is not

pub unknown_decided : (s : ClubState) (id : ℕ) (moment : ℕ) (who : Caller) (command : GameCommand) (d : CommandEffect)
    → place s.games id ≡ None → d.outcome ≡ given_is.Refused (no_game_refusal who command) → d.changes ≡ None
    → IsDecided s (caller_step s moment who (on_game id command)) d
unknown_decided s id moment who command d absent is none =
    none_decided s (caller_step s moment who (on_game id command)) d (given_is.Refused (no_game_refusal who command)) is
    none
    (sym (ap (λ o. answered (step_game both_games s moment id who command o)) absent)) refl
