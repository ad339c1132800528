-- What is decided of an import, by the game under its key and the rows that are put.
use Rattle.std.proofs.Common.{◌≡◌, ◌≢◌, ◌⊎◌, inl, inr, ℕ, ◌+◌, ◌<◌, List, [], ◌∷◌, length, map, drop, get_or}
use Rattle.std.proofs.Common.{Option, Some, None, Bool, true, refl, ap, sym, subst, subst₂, ◌∙◌, arith, add-one}
use Rattle.std.specs.Prelude.{if◌then◌else◌}
use Rattle.std.proofs.lemmas.Bool.{eq-eqb}
use Rattle.sqlite.specs.Order.{Row}
use Rattle.squares.specs.declared.draughts.moves.DMove.{DMove}
use Rattle.squares.specs.declared.sides.Score.{Score}
use Rattle.squares.specs.declared.sides.Side.{Side}
use Rattle.squares.specs.declared.shogi.moves.SMove.{SMove}
use Rattle.club_rules.specs.declared.names.GameKind.{GameKind}
use Rattle.club_rules.specs.declared.names.GameKind.TheVariants.{Draughts, Shogi}
use Rattle.club_rules.specs.GameRules.{GameRules}
use Rattle.club_rules.specs.Records as record_is
use Rattle.club_rules.specs.Records.{Reading, GameRecords}
use Rattle.club_games.specs.DraughtsRecords.{draughts_records}
use Rattle.club_games.specs.ShogiRecords.{shogi_records}
use Rattle.club_requests.specs.declared.answers.Answer.TheVariants as answer_is
use Rattle.club_requests.specs.declared.answers.Outcome.TheVariants as given_is
use Rattle.club_core.specs.declared.events.Event as given_event
use Rattle.club_core.specs.declared.members.Member as given_member
use Rattle.club_requests.specs.declared.refusals.Refusal.{Refusal}
use Rattle.club_requests.specs.declared.requests.Caller.{Caller}
use Rattle.club_requests.specs.declared.requests.Caller.TheVariants.{Officer, Member}
use Rattle.club_core.specs.Answer.{outcome_of, answered}
use Rattle.club_core.specs.internal.Answer.{members_of, event_of, events_of}
use Rattle.club_core.specs.declared.rows.GameEnd.{GameEnd}
use Rattle.club_core.specs.Events.{Terms, Event, event_kind, event_declares, has_event_name}
use Rattle.club_core.specs.Game.{Game, score_with}
use Rattle.club_core.specs.Imports.{Import, Imported, imported, has_part, reading_of_import, repeat_of_import, read_in}
use Rattle.club_core.specs.Imports.{import_tests, import_refusal, import_between, import_found}
use Rattle.club_core.specs.LegalState.{IsLegalIn}
use Rattle.club_requests.specs.Limits.{is_name}
use Rattle.club_core.specs.Members.{find_id}
use Rattle.club_requests.specs.Outcome.{Outcome, accepted, repeated, refused, map_outcome, by_officer}
use Rattle.club_requests.specs.Outcome.{game_seated}
use Rattle.club_core.specs.declared.seats.KeyedGame.{KeyedGame}
use Rattle.club_core.specs.Seats.{has_member_name, are_distinct}
use Rattle.club_core.specs.State.{draughts, shogi, place, kind_at, terms_at, any_under, draughts_in, shogi_in}
use Rattle.club_core.specs.State.{state_after, with_imported, import_looked_up, import_as, import_record}
use Rattle.club_core.proofs.Proved.{none-holds}
use Rattle.club_laws.proofs.Proved.{three-true, not-false, not-true, false-true, in-place}
use Rattle.club_rows.specs.Club.{ClubGame, both_games, ClubState, IsClub, tables}
use Rattle.club_rows.specs.Seen.{seen_rows}
use Rattle.club_rows.specs.Tables.{number, game_row, move_rows, rows_of_moves}
use Rattle.club_rows.proofs.Proved.{Kind, event_in, in_draughts, in_shogi, met_ended, scores_added}
use Rattle.club_changes.proofs.SeenTexts.{drop-mapped}
use Rattle.club_changes.specs.internal.NewGames.{AreNewRows}
use Rattle.club_changes.specs.declared.imported.added.NewRows.{NewRows}
use Rattle.store_tables.specs.Cells.{game_cells, move_cells, seen_cells}
use Rattle.store_tables.specs.declared.rows.Changes.{Changes}
use Rattle.club_changes.specs.declared.decided.CommandEffect.{CommandEffect}
use Rattle.club_changes.specs.declared.stored.StoredGame.{StoredGame}
use Rattle.club_changes.specs.declared.imports.ImportContext.{ImportContext}
use Rattle.club_changes.specs.internal.Importing.{TellsLine, IsUnder, IsKnown, IsOfKind, imported_by, PutsNewGame}
use Rattle.club_changes.specs.internal.Importing.{PutsImport}
use Rattle.club_changes.specs.internal.Importing.{IsImportedIn}
use Rattle.club_changes.specs.internal.Steps.{Makes, Puts, caller_step, IsDecided, no_rows}
use Rattle.club_changes.proofs.FoundMoves.{of_game, in_table, id_of}
use Rattle.club_changes.proofs.GameRows.{stored_as}
use Rattle.club_changes.proofs.ImportedTables.{game_more}
use Rattle.club_changes.proofs.NextRows.{moves_had}
use Rattle.club_changes.proofs.OutcomeLemmas.{nothing_made, answered_officer, unrefused}
use Rattle.club_changes.proofs.PutSame.{ids_agree, ids_same, gathered_had}

-- ---- the rows of one game's moves

module _ {P M E T : Type 0} {laws : GameRules P M E T} {kind : GameKind} (k : Kind laws kind) (s : ClubState) (id : ℕ)
    (g : Game M) (here : place s.games id ≡ Some (k.into g)) where
  pub tells_line : TellsLine laws (terms_at (place s.events g.event)) id g (tables s)
  tells_line found those = record {
    there = λ z has.
        let those_z = those.sound z has in
        let (n, x, stands, in_rows) = gathered_had (rows_of_moves both_games s.events) 1 s.games z those_z.0 in
        let first = moves_had both_games s.events (1 + n) x z in_rows in
        of_game k s id g here z those_z.0 (first
        ∙ ap number (ids_same z (number id ∷ []) (1 + n) id first refl those_z.1));
    back = λ z has. those.complete z (in_table k s id g here z has)
        (ids_agree z (number id ∷ []) id (id_of k s id g here z has) refl);
  }

-- ---- the kinds

-- the imports of one kind, by the games under a key that are of this kind
pub record ImportsOf {P M E T : Type 0} {laws : GameRules P M E T} {kind : GameKind} (k : Kind laws kind)
    (records : GameRecords M) : Type 0 where
  pub of_kind : Option ClubGame → Option (Game M)
  pub none : of_kind None ≡ None
  pub same : (g : Game M) → of_kind (Some (k.into g)) ≡ Some g
  pub other : (s : ClubState) (any : ClubGame) → IsLegalIn both_games s any
      → kind_at (place s.events (event_in any)) ≢ kind → of_kind (Some any) ≡ None
  pub step : (s : ClubState) (moment : ℕ) (given : Import) → import_as both_games s moment given kind
      ≡ map_outcome (λ i. with_imported s moment (k.into (imported laws (Some given.key) i.pairing moment i.recorded)))
      (import_looked_up laws records s given (of_kind (any_under s.games given.key)))

pub other_draughts : (s : ClubState) (any : ClubGame) → IsLegalIn both_games s any
    → kind_at (place s.events (event_in any)) ≢ Draughts → ◌≡◌ {A = Option (Game DMove)} (draughts_in (Some any)) None
other_draughts s (draughts g) legal apart = absurd (apart (ap kind_at legal.in_event ∙ legal.of_kind))
other_draughts s (shogi g) legal apart = refl

pub other_shogi : (s : ClubState) (any : ClubGame) → IsLegalIn both_games s any
    → kind_at (place s.events (event_in any)) ≢ Shogi → ◌≡◌ {A = Option (Game SMove)} (shogi_in (Some any)) None
other_shogi s (shogi g) legal apart = absurd (apart (ap kind_at legal.in_event ∙ legal.of_kind))
other_shogi s (draughts g) legal apart = refl

abbrev pub imports_draughts : ImportsOf in_draughts draughts_records
imports_draughts =
    record { of_kind = λ a. draughts_in a; none = refl; same = λ g. refl; other = other_draughts; step = λ s m i. refl }

abbrev pub imports_shogi : ImportsOf in_shogi shogi_records
imports_shogi =
    record { of_kind = λ a. shogi_in a; none = refl; same = λ g. refl; other = other_shogi; step = λ s m i. refl }

pub kinds_decide : (a b : GameKind) → (a ≡ b) ⊎ (a ≢ b)
kinds_decide Draughts Draughts = inl refl
kinds_decide Shogi Shogi = inl refl
kinds_decide Draughts Shogi = inr (λ is. cc)
kinds_decide Shogi Draughts = inr (λ is. cc)

-- ---- what an accepted import adds

-- the game's number is the next one, and its players differ
pub record AddsNext {M : Type 0} (games : ℕ) (i : Imported M) (id : ℕ) : Type 0 where
  pub next : id ≡ games + 1
  pub apart : i.pairing.first ≢ i.pairing.second

between_adds : {M : Type 0} (event : ℕ) (first second : Option ℕ) (games : ℕ) (read : Reading M) (i : Imported M)
    (id : ℕ) → are_distinct first second ≡ true → accepted i (game_seated id) ≡ import_between event first second games read
    → AddsNext games i id
between_adds event None second games (record_is.game r) i id two is = cc
between_adds event (Some one) None games (record_is.game r) i id two is = cc
between_adds {M} event (Some one) (Some other) games (record_is.game r) i id two is =
    let made : Imported M = record { pairing = record { event = event; first = one; second = other }; recorded = r } in
    let same : i ≡ made = cc in
    let next : id ≡ games + 1 = cc in
    record {
      next = next;
      apart = λ alike. false-true _ (not-true _ two)
          (eq-eqb one other (sym (ap (λ x. x.pairing.first) same) ∙ (alike ∙ ap (λ x. x.pairing.second) same)));
    }
between_adds event first second games record_is.no_part i id two is = cc
between_adds event first second games (record_is.refused refusal) i id two is = cc

module _ {P M E T : Type 0} (laws : GameRules P M E T) (records : GameRecords M) (given : Import)
    (first second : Option ℕ) (under : Option KeyedGame) (old : Option (Game M)) (games : ℕ) (i : Imported M) (id : ℕ)
  where
    pub officer_adds : (who : Caller) (declares : Bool) (event : Option ℕ)
        → accepted i (game_seated id) ≡ by_officer who
        (import_found laws records given declares event first second under old games) → AddsNext games i id
    officer_adds (Member m) declares event is = cc
    officer_adds Officer declares None is = cc
    officer_adds Officer declares (Some event) is =
        let read = reading_of_import laws records given in
        let admitted = read_in records.format declares read in
        let (allowed, added) = unrefused (repeat_of_import laws records given event first second under old games)
        (import_refusal laws records given event first second under old games)
        (import_between event first second games admitted) i (game_seated id) is in
        let tests = none-holds (import_tests laws records given event first second under old games) allowed in
        let good = three-true (is_name given.key) (are_distinct first second) (has_part read) (not-false _ tests.1.0) in
        between_adds event first second games admitted i id good.1 added

-- ---- in the club

module _ {P M E T : Type 0} {laws : GameRules P M E T} {kind : GameKind} (k : Kind laws kind) {records : GameRecords M}
    (of : ImportsOf k records) (s : ClubState) (is_club : IsClub s) where
  -- the stored game under a key, where it is of this kind
  pub under_of_kind : (key : List ℕ) (under : Option StoredGame) → IsUnder s key under
      → IsOfKind laws kind (tables s) (of.of_kind (any_under s.games key)) under
  under_of_kind key None is = rw (is.0, of.none) tt
  under_of_kind key (Some stored) is = elim (kinds_decide stored.kind kind) [
    | inl same ↦
        let (g, stands) = stored_as k s is_club is.id is.game stored is.here is.stored_is same in
        let line = subst₂ (λ t n. TellsLine laws t n g (tables s)) (sym stands.terms) (sym is.stored_is.id_is)
        (tells_line k s is.id g stands.here) in
        rw (is.under, stands.same, of.same g) (same, line, stands.is_row)
    | inr apart ↦
        let legal = in-place (IsLegalIn both_games s) s.games is.id is.game is_club.games is.here in
        rw (is.under, of.other s is.game legal (λ alike. apart (is.stored_is.kind ∙ alike))) apart
  ]

  module _ (moment : ℕ) (given : Import) where
    abbrev new_game : Imported M → Game M
    new_game i = imported laws (Some given.key) i.pairing moment i.recorded

    abbrev added : Imported M → ClubState
    added i = with_imported s moment (k.into (new_game i))

    put_new : (i : Imported M) (c : Changes)
        → PutsNewGame laws (terms_at (place s.events i.pairing.event)) (length s.games + 1) moment (tables s 14)
        (new_game i) c → Makes s (added i) (Some c)
    put_new i c p =
        let new = new_game i in
        let n = 1 + length s.games in
        let next : length s.games + 1 ≡ n = omega arith in
        let put = p.scores_are in
        game_more s (k.into new) moment c p.scores (λ id. k.rulings id new)
        (rw put.rows_are
        (scores_added both_games s.games new.event new.first new.second (Some p.score) put.firsts put.seconds put.pair
        put.firsts_are put.seconds_are put.next (k.into new)
        (k.scores new ∙ met_ended laws new p.end (Some p.score) p.ended p.result)))
        (rw (k.row s.events n new, k.moves s.events n new, k.seen n new) (rw next at p.puts))

    put_import : (who : Caller) (look : Outcome (Imported M)) (c : Option Changes)
        → PutsImport laws s.events given.key (length s.games) moment (tables s 14) (by_officer who look) c
        → Makes s (state_after s (by_officer who (map_outcome added look))) c
    put_import Officer (accepted i reply) (Some c) p = put_new i c p
    put_import Officer (repeated reply) None p = nothing_made s
    put_import Officer (refused refusal) None p = nothing_made s
    put_import Officer (accepted i reply) None p = absurd p
    put_import Officer _ (Some c) p = absurd p
    put_import (Member m) look None p = nothing_made s
    put_import (Member m) look (Some c) p = absurd p

    -- what was decided by the records of the event's kind was decided in the club
    pub import_decided : (who : Caller) (known : ImportContext) (d : CommandEffect) → IsKnown s given.key known
        → event_kind s.events given.event ≡ kind
        → IsImportedIn laws (events_of known.events.items) given.key known.games moment (tables s 14)
        (imported_by laws records known who given (of.of_kind (any_under s.games given.key))) d
        → IsDecided s (caller_step s moment who (import_record given)) d
    import_decided who known d is kind_is decided =
        let look = import_looked_up laws records s given (of.of_kind (any_under s.games given.key)) in
        let step = ap (λ x. by_officer who (import_as both_games s moment given x)) kind_is
        ∙ ap (by_officer who) (of.step s moment given) in
        let found = rw (is.members_are, is.events_are, is.keyed_is, is.games_are) at decided in
        record {
          answer = found.answer ∙ (sym (answered_officer s added who look) ∙ ap answered (sym step));
          makes = subst (λ x. Makes s (state_after s x) d.changes) (sym step)
              (put_import who look d.changes found.puts);
        }

-- a game with a result has ended
pub ended_with : {P M E T : Type 0} (laws : GameRules P M E T) (o : Option (GameEnd E)) (turn : Side) (score : Score)
    → score_with laws o turn ≡ Some score → (end : GameEnd E) × (o ≡ Some end)
ended_with laws (Some end) turn score is = (end, refl)
ended_with laws None turn score is = cc

-- ---- by what the program answers

module _ {P M E T : Type 0} (laws : GameRules P M E T) (events : List Event) (key : List ℕ) (games moment : ℕ)
    (table : List Row) (d : CommandEffect) (after : Outcome (Imported M)) where
  pub repeated_in : (id : ℕ) → d.outcome ≡ given_is.Repeated (answer_is.Game id) → d.changes ≡ None
      → ◌≡◌ {A = Outcome (Imported M)} (repeated (game_seated id)) after
      → IsImportedIn laws events key games moment table after d
  repeated_in id is none same =
      record { answer = ap outcome_of is ∙ ap answered same; puts = rw (← same, none) tt }

  pub refused_in : (why : Refusal) → d.outcome ≡ given_is.Refused why → d.changes ≡ None
      → ◌≡◌ {A = Outcome (Imported M)} (refused why) after → IsImportedIn laws events key games moment table after d
  refused_in why is none same =
      record { answer = ap outcome_of is ∙ ap answered same; puts = rw (← same, none) tt }

-- a game was added, by the next number
pub added_in : {P M E T : Type 0} (laws : GameRules P M E T) (events : List Event) (key : List ℕ) (games moment : ℕ)
    (table : List Row) (after : Outcome (Imported M)) (i : Imported M) (id : ℕ) (c : Changes)
    → accepted i (game_seated id) ≡ after → id ≡ games + 1
    → PutsNewGame laws (terms_at (place events i.pairing.event)) id moment table
    (imported laws (Some key) i.pairing moment i.recorded) c
    → IsImportedIn laws events key games moment table after
    (record { outcome = given_is.Accepted (answer_is.Game id); changes = Some c })
added_in laws events key games moment table after i id c same next puts =
    record { answer = ap answered same; puts = rw (← same) (rw next at puts) }

-- ---- the kind of an event's games

-- the events from a place on tell the kind by the one there, or by the others
pub kind_at_place : (es : List given_event.Event) (name : List ℕ) (i : ℕ) (e : given_event.Event) → i < length es
    → e ≡ get_or es i e
    → event_kind (drop i (events_of es)) name
    ≡ (if has_event_name name (event_of e) then e.game else event_kind (drop (i + 1) (events_of es)) name)
kind_at_place es name i e within is =
    ap (λ l. event_kind l name) (drop-mapped event_of es i e within is
    ∙ ap (λ k. event_of e ∷ drop k (events_of es)) (sym (add-one i)))

-- what is put are the rows of the game
pub put_as : {P M E T : Type 0} (laws : GameRules P M E T) (terms : Terms) (id moment : ℕ) (game : Game M)
    (rows : NewRows) (scores : List Row) (c : Changes) → AreNewRows laws terms id game rows
    → Puts c moment
    (record no_rows {
      games = game_cells rows.game ∷ [];
      moves = map move_cells rows.moves.items;
      seen = map seen_cells rows.seen.items;
      scores = scores;
    })
    → Puts c moment
    (record no_rows {
      games = game_row laws terms id game ∷ [];
      moves = move_rows laws terms id game;
      seen = seen_rows laws id game;
      scores = scores;
    })
put_as laws terms id moment game rows scores c are puts =
    rw (are.game_is, are.moves_are, are.seen_are) at puts

-- what an import answers by the members and the events is what it answers by what is known
pub by_known : {P M E T : Type 0} (laws : GameRules P M E T) (records : GameRecords M) (known : ImportContext) (who : Caller)
    (given : Import) (old : Option (Game M)) (ms : List given_member.Member) (es : List given_event.Event)
    → ms ≡ known.members.items → es ≡ known.events.items
    → by_officer who
    (import_found laws records given (event_declares (events_of es) given.event)
    (find_id (has_event_name given.event) (events_of es))
    (find_id (has_member_name given.first) (members_of ms)) (find_id (has_member_name given.second) (members_of ms))
    known.keyed old known.games) ≡ imported_by laws records known who given old
by_known laws records known who given old ms es members events = rw (members, events)
