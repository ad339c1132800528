-- The tables of a club after a member got another key, and after an event was closed.
use Rattle.std.proofs.Common.{◌≡◌, ℕ, zero, suc, ◌+◌, ◌-◌, ◌<◌, List, [], ◌∷◌, ◌++◌, length, Option, Some, None, Bool}
use Rattle.std.proofs.Common.{true, false, refl, ap, sym, subst, ◌∙◌, true≢false, arith, inl, inr}
use Rattle.std.specs.Prelude.{is_some, nat_le, slice_get, slice_set}
use Rattle.std.specs.Option.{option_map, option_to_list}
use Rattle.std.proofs.lemmas.Bool.Decides.{nat_tests}
use Rattle.std.proofs.lemmas.Bool.{not-false, and_parts}
use Rattle.std.proofs.lemmas.Option.{slice_get_within}
use Rattle.sqlite.specs.Order.{Row, column}
use Rattle.sqlite_rules.specs.Lists.{Has}
use Rattle.store_tables.specs.Content.{same_key}
use Rattle.store_tables.specs.declared.rows.Changes.{Changes}
use Rattle.club_requests.specs.declared.answers.Outcome as given
use Rattle.club_requests.specs.declared.requests.Caller.{Caller}
use Rattle.club_requests.specs.declared.requests.Caller.TheVariants.{Officer, Member as by_key}
use Rattle.club_requests.specs.Limits.{is_member_key}
use Rattle.club_requests.specs.Outcome.{Reply, Outcome, accepted, repeated, refused, by_officer}
use Rattle.club_core.specs.Answer.{answered, outcome_of}
use Rattle.club_core.specs.Closings.{closed_at, close_step}
use Rattle.club_core.specs.Events.{Event, has_event_name}
use Rattle.club_core.specs.Keys.{is_key_number, key_step, with_key}
use Rattle.club_core.specs.Members.{Member, find_id}
use Rattle.club_core.specs.Seats.{has_member_name}
use Rattle.club_core.specs.State.{is_accepted, new_key, close_event, place, terms_at, with_events, with_members}
use Rattle.club_core.specs.State.{draughts, shogi}
use Rattle.club_laws.proofs.Proved.{WasKeyed, find_id-found, number-is, was-closed, was-keyed}
use Rattle.club_rows.specs.Club.{ClubGame, ClubState, both_games}
use Rattle.club_rows.specs.Tables.{numbered_from, game_row, move_rows, row_of_game, rows_of_moves}
use Rattle.club_rows.specs.Tables.{closing_row, event_row, key_row, member_row, rows_of_closing, rows_of_keys, rule_row}
use Rattle.club_changes.specs.internal.Steps.{IsDecided, Puts, caller_step, no_rows}
use Rattle.club_changes.proofs.ClubPlayed.{place_at}
use Rattle.club_changes.proofs.OutcomeLemmas.{all_decided, answered_officer, moment_put, officer_stands}
use Rattle.club_changes.proofs.PlacedIds.{numbered_had}
use Rattle.club_changes.proofs.PutSame.{◌&◌, gathered_alike, ids_apart, numbered_alike, one_row_more_by, pairs_apart}
use Rattle.club_changes.proofs.PutSame.{same_by, same_itself}

-- ---- lists

module _ {A : Type 0} (row : ℕ → A → Row) where
  -- an element is replaced by another with the same row
  row_kept : (id : ℕ) (xs : List A) (i : ℕ) (old new : A) → slice_get xs i ≡ Some old
      → ((k : ℕ) → row k new ≡ row k old) → numbered_from row id xs ≡ numbered_from row id (slice_set xs i new)
  row_kept id [] i old new at same = refl
  row_kept id (x ∷ xs) zero old new at same =
      let e : x ≡ old = cc in ap (λ (r : Row). r ∷ numbered_from row (suc id) xs) (ap (row id) e ∙ sym (same id))
  row_kept id (x ∷ xs) (suc i) old new at same =
      ap (λ l. row id x ∷ l) (row_kept (suc id) xs i old new at same)

  -- the row of the last element
  row_last : (id : ℕ) (xs : List A) (x : A)
      → numbered_from row id (xs ++ x ∷ []) ≡ numbered_from row id xs ++ row (id + length xs) x ∷ []
  row_last id [] x = let here : id ≡ id + 0 = omega arith in ap (λ k. row k x ∷ []) here
  row_last id (y ∷ ys) x =
      let later : suc id + length ys ≡ id + suc (length ys) = omega arith in
      ap (λ l. row id y ∷ l)
      (row_last (suc id) ys x ∙ ap (λ k. numbered_from row (suc id) ys ++ row k x ∷ []) later)

-- a search's id is a place
found_place : {A : Type 0} (test : A → Bool) (xs : List A) (id : ℕ) → find_id test xs ≡ Some id → 1 + (id - 1) ≡ id
found_place test xs id is =
    let (x, there, passes) = find_id-found test xs id is in
    let (n, id_is, at) = place_at xs id x there in
    omega (arith, id_is)

-- ---- what was accepted

module _ {T : Type 0} where
  officer_accepts : (who : Caller) (step : Outcome T) → is_accepted (answered (by_officer who step)) ≡ true
      → (t : T) × (r : Reply) × (who ≡ Officer) × (step ≡ accepted t r)
  officer_accepts Officer (accepted t r) is = (t, r, refl, refl)
  officer_accepts Officer (repeated r) is = absurd (true≢false (sym is))
  officer_accepts Officer (refused why) is = absurd (true≢false (sym is))
  officer_accepts (by_key id) step is = absurd (true≢false (sym is))

  officer_took : (who : Caller) (step : Outcome T) (t : T) (r : Reply) → who ≡ Officer → step ≡ accepted t r
      → accepted t r ≡ by_officer who step
  officer_took who step t r officer is = rw (officer, is) refl

-- ---- keys

-- the number of an accepted new key is the next one, and a small one
record IsNextKey (m : Member) (n : ℕ) : Type 0 where
  next : n ≡ suc (length m.later)
  room : length m.later < 99

next_key : (all new : List Member) (name : List ℕ) (n : ℕ) (key : List ℕ) (reply : Reply)
    (w : WasKeyed all name n key new reply) → IsNextKey w.member n
next_key all new name n key reply w =
    let full : nat_le 99 (length w.member.later) ≡ false = w.tests.1.1.1.0 in
    let is : is_key_number w.member n ≡ true =
    (and_parts (is_member_key key) _ (not-false _ w.tests.1.1.0)).1 in
    record {
      next = number-is w.member n w.tests.0 is;
      room = grind (arith, nat_tests);
    }

-- no other key has the row's number
fresh_key : (all : List Member) (i : ℕ) (m : Member) (n : ℕ) (key : List ℕ) → slice_get all i ≡ Some m
    → n ≡ suc (length m.later) → (k : ℕ) (x : Member) (z : Row) → slice_get all k ≡ Some x
    → Has (rows_of_keys (1 + k) x) z → same_key (0 ∷ 1 ∷ []) z (key_row (1 + i) n key) ≡ false
fresh_key all i m n key at next k x z stands has =
    let (j, later, there, is) = numbered_had (key_row (1 + k)) 1 x.later z has in
    pairs_apart z (key_row (1 + i) n key) (1 + k) (1 + i) (1 + j) n (ap (λ w. column w 0) is) refl
    (ap (λ w. column w 1) is) refl
    (λ same_member same_number.
    let k_is : k ≡ i = omega (arith, same_member) in
    let here : slice_get all k ≡ Some m = ap (slice_get all) k_is ∙ at in
    let x_is : x ≡ m = cc in
    let within : j < length x.later = slice_get_within x.later j later there in
    let count : length x.later ≡ length m.later = ap (λ w. length w.later) x_is in
    absurd (omega (arith, within, count, same_number, next)))

-- a key that was given is put
pub key_decided : (s : ClubState) (moment : ℕ) (who : Caller) (name : List ℕ) (n : ℕ) (key : List ℕ)
    (o : given.Outcome) (c : Changes) (id : ℕ) → s.has_arbiter ≡ true
    → outcome_of o ≡ answered (by_officer who (key_step s.members name n key)) → is_accepted (outcome_of o) ≡ true
    → Some id ≡ find_id (has_member_name name) s.members
    → Puts c moment (record no_rows { keys = key_row id n key ∷ [] })
    → IsDecided s (caller_step s moment who (new_key name n key)) (record { outcome = o; changes = Some c })
key_decided s moment who name n key o c id arbiter answer is_in found are =
    let step = key_step s.members name n key in
    let f = with_members s moment in
    let (new, reply, officer, took) = officer_accepts who step (ap is_accepted (sym answer) ∙ is_in) in
    let w = was-keyed s.members name n key new reply took in
    let id_is : id ≡ w.id = let e : Some id ≡ Some w.id = found ∙ w.found in cc in
    let place_is : 1 + (w.id - 1) ≡ id = found_place (has_member_name name) s.members w.id w.found ∙ sym id_is in
    let i = w.id - 1 in
    let m = w.member in
    let next = next_key s.members new name n key reply w in
    let number_is : 1 + length m.later ≡ n = omega (arith, next.next) in
    let grown : rows_of_keys (1 + i) (with_key m key) ≡ rows_of_keys (1 + i) m ++ key_row (1 + i) n key ∷ [] =
    row_last (key_row (1 + i)) 1 m.later key
    ∙ ap (λ k. rows_of_keys (1 + i) m ++ key_row (1 + i) k key ∷ []) number_is in
    all_decided s (caller_step s moment who (new_key name n key)) (f (slice_set s.members i (with_key m key))) o c
    moment _ (answer ∙ sym (answered_officer s f who step))
    (officer_stands s f who step new reply (officer_took who step new reply officer took) ∙ ap f (sym w.stands))
    (subst (λ k. Puts c moment (record no_rows { keys = key_row k n key ∷ [] })) (sym place_is) are) (inl arbiter)
    (moment_put s moment
    & same_by _ _ (row_kept member_row 1 s.members i m (with_key m key) w.stood (λ k. refl))
    & same_itself _ & same_itself _ & same_itself _ & same_itself _ & same_itself _ & same_itself _
    & same_itself _
    & one_row_more_by rows_of_keys s.members i m (with_key m key) w.stood (0 ∷ 1 ∷ []) (key_row (1 + i) n key) grown
    (fresh_key s.members i m n key w.stood next.next)
    & same_itself _ & same_itself _ & tt)

-- its number fits a column
pub key_small : (all : List Member) (who : Caller) (name : List ℕ) (n : ℕ) (key : List ℕ) (o : given.Outcome)
    → outcome_of o ≡ answered (by_officer who (key_step all name n key)) → is_accepted (outcome_of o) ≡ true → n < 100
key_small all who name n key o answer is_in =
    let (new, reply, officer, took) = officer_accepts who (key_step all name n key)
    (ap is_accepted (sym answer) ∙ is_in) in
    let next = next_key all new name n key reply (was-keyed all name n key new reply took) in
    omega (arith, next.next, next.room)

-- its member was found
pub key_found_by : (all : List Member) (who : Caller) (name : List ℕ) (n : ℕ) (key : List ℕ) (o : given.Outcome)
    → outcome_of o ≡ answered (by_officer who (key_step all name n key)) → is_accepted (outcome_of o) ≡ true
    → None ≡ find_id (has_member_name name) all → ⊥
key_found_by all who name n key o answer is_in none =
    let (new, reply, officer, took) = officer_accepts who (key_step all name n key)
    (ap is_accepted (sym answer) ∙ is_in) in
    let w = was-keyed all name n key new reply took in
    let e : None ≡ Some w.id = none ∙ w.found in cc

-- ---- closings

-- the terms of events stay where one is replaced by another with the same terms
terms_set : (events : List Event) (i : ℕ) (e new : Event) → slice_get events i ≡ Some e → e.terms ≡ new.terms → (n : ℕ)
    → terms_at (slice_get events n) ≡ terms_at (slice_get (slice_set events i new) n)
terms_set [] i e new at same n = refl
terms_set (x ∷ xs) zero e new at same zero = let is : x ≡ e = cc in ap (λ y. y.terms) is ∙ same
terms_set (x ∷ xs) zero e new at same (suc n) = refl
terms_set (x ∷ xs) (suc i) e new at same zero = refl
terms_set (x ∷ xs) (suc i) e new at same (suc n) = terms_set xs i e new at same n

module _ (events : List Event) (i : ℕ) (e new : Event) (at : slice_get events i ≡ Some e)
    (same : e.terms ≡ new.terms) where
  terms_stay : (id : ℕ) → terms_at (place events id) ≡ terms_at (place (slice_set events i new) id)
  terms_stay zero = refl
  terms_stay (suc n) = terms_set events i e new at same n

  row_stays : (id : ℕ) (g : ClubGame)
      → row_of_game both_games events id g ≡ row_of_game both_games (slice_set events i new) id g
  row_stays id (draughts g) = ap (λ t. game_row both_games.draughts t id g) (terms_stay g.event)
  row_stays id (shogi g) = ap (λ t. game_row both_games.shogi t id g) (terms_stay g.event)

  moves_stay : (id : ℕ) (g : ClubGame)
      → rows_of_moves both_games events id g ≡ rows_of_moves both_games (slice_set events i new) id g
  moves_stay id (draughts g) = ap (λ t. move_rows both_games.draughts t id g) (terms_stay g.event)
  moves_stay id (shogi g) = ap (λ t. move_rows both_games.shogi t id g) (terms_stay g.event)

none_of : {A : Type 0} (o : Option A) → is_some o ≡ false → o ≡ None
none_of None is = refl
none_of (Some x) is = absurd (true≢false is)

listed : {A : Type 0} (f : A → Row) (o : Option A) (z : Row) → Has (option_to_list (option_map f o)) z
    → (x : A) × (o ≡ Some x) × (z ≡ f x)
listed f None z h = absurd h
listed f (Some x) z h = elim h [ inl is ↦ (x, refl, is) | inr none ↦ absurd none ]

-- no other closing is of the event
fresh_closing : (events : List Event) (i : ℕ) (e : Event) (moment : ℕ) → slice_get events i ≡ Some e
    → e.closed ≡ None → (k : ℕ) (x : Event) (z : Row) → slice_get events k ≡ Some x
    → Has (rows_of_closing (1 + k) x) z → same_key (0 ∷ []) z (closing_row (1 + i) moment) ≡ false
fresh_closing events i e moment at open_is k x z stands has =
    let (t, closed, is) = listed (closing_row (1 + k)) x.closed z has in
    ids_apart z (closing_row (1 + i) moment) (1 + k) (1 + i) (ap (λ w. column w 0) is) refl
    (λ same_event.
    let k_is : k ≡ i = omega (arith, same_event) in
    let here : slice_get events k ≡ Some e = ap (slice_get events) k_is ∙ at in
    let x_is : x ≡ e = cc in
    let both : Some t ≡ None = sym closed ∙ (ap (λ y. y.closed) x_is ∙ open_is) in
    cc)

-- an event that was closed is put
pub closing_decided : (s : ClubState) (moment : ℕ) (who : Caller) (name : List ℕ) (o : given.Outcome) (c : Changes)
    (id : ℕ) → s.has_arbiter ≡ true → outcome_of o ≡ answered (by_officer who (close_step s.events name moment))
    → is_accepted (outcome_of o) ≡ true → Some id ≡ find_id (has_event_name name) s.events
    → Puts c moment (record no_rows { closings = closing_row id moment ∷ [] })
    → IsDecided s (caller_step s moment who (close_event name)) (record { outcome = o; changes = Some c })
closing_decided s moment who name o c id arbiter answer is_in found are =
    let step = close_step s.events name moment in
    let f = with_events s moment in
    let (new, reply, officer, took) = officer_accepts who step (ap is_accepted (sym answer) ∙ is_in) in
    let w = was-closed s.events name moment new reply took in
    let id_is : id ≡ w.id = let e : Some id ≡ Some w.id = found ∙ w.found in cc in
    let place_is : 1 + (w.id - 1) ≡ id = found_place (has_event_name name) s.events w.id w.found ∙ sym id_is in
    let i = w.id - 1 in
    let e = w.event in
    let closed = closed_at e moment in
    let was_open = none_of e.closed w.was_open in
    let grown : rows_of_closing (1 + i) closed ≡ rows_of_closing (1 + i) e ++ closing_row (1 + i) moment ∷ [] =
    sym (ap (λ t. option_to_list (option_map (closing_row (1 + i)) t) ++ closing_row (1 + i) moment ∷ []) was_open) in
    all_decided s (caller_step s moment who (close_event name)) (f (slice_set s.events i closed)) o c moment _
    (answer ∙ sym (answered_officer s f who step))
    (officer_stands s f who step new reply (officer_took who step new reply officer took) ∙ ap f (sym w.stands))
    (subst (λ k. Puts c moment (record no_rows { closings = closing_row k moment ∷ [] })) (sym place_is) are)
    (inl arbiter)
    (moment_put s moment
    & same_itself _
    & same_by _ _ (row_kept event_row 1 s.events i e closed w.stood (λ k. refl))
    & same_itself _
    & same_by _ _
    (gathered_alike (rows_of_moves both_games s.events) (rows_of_moves both_games (slice_set s.events i closed)) 1
    s.games (λ n g at k. moves_stay s.events i e closed w.stood refl k g))
    & same_by _ _
    (numbered_alike (row_of_game both_games s.events) (row_of_game both_games (slice_set s.events i closed)) 1
    s.games (λ n g at k. row_stays s.events i e closed w.stood refl k g))
    & same_itself _ & same_itself _
    & same_by _ _ (row_kept rule_row 1 s.events i e closed w.stood (λ k. refl))
    & same_itself _ & same_itself _
    & one_row_more_by rows_of_closing s.events i e closed w.stood (0 ∷ []) (closing_row (1 + i) moment) grown
    (fresh_closing s.events i e moment w.stood was_open) & tt)

-- its event was found
pub closing_found_by : (all : List Event) (moment : ℕ) (who : Caller) (name : List ℕ) (o : given.Outcome)
    → outcome_of o ≡ answered (by_officer who (close_step all name moment)) → is_accepted (outcome_of o) ≡ true
    → None ≡ find_id (has_event_name name) all → ⊥
closing_found_by all moment who name o answer is_in none =
    let (new, reply, officer, took) = officer_accepts who (close_step all name moment)
    (ap is_accepted (sym answer) ∙ is_in) in
    let w = was-closed all name moment new reply took in
    let e : None ≡ Some w.id = none ∙ w.found in cc
