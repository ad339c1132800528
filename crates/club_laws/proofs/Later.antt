-- A later state has what an earlier one had: members, events and games stay at their places, games keep their entries,
-- and challenges stand under their numbers.
use Rattle.std.proofs.Common.{◌≡◌, ℕ, zero, suc, ◌+◌, ◌-◌, ◌≤◌, List, [], ◌∷◌, ◌++◌, length, map, Option, Some, None}
use Rattle.std.proofs.Common.{Bool, true, false, refl, ap, sym, ◌∙◌, arith, inl, inr}
use Rattle.std.specs.Prelude.{is_some, max, slice_get, slice_set, if◌then◌else◌}
use Rattle.club_rules.specs.declared.names.GameKind.{GameKind}
use Rattle.club_rules.specs.declared.names.GameKind.TheVariants.{Draughts, Shogi}
use Rattle.club_requests.specs.declared.requests.Caller.{Caller}
use Rattle.club_requests.specs.declared.requests.Caller.TheVariants.{Officer, Member}
use Rattle.club_requests.specs.declared.rulings.Ruling.{Ruling}
use Rattle.club_requests.specs.Outcome.{Reply, member_added, event_added, accepted, refused, by_officer}
use Rattle.club_requests.specs.declared.refusals.Refusal.TheVariants.{UnknownGame}
use Rattle.club_core.specs.ClubRules.{ClubRules}
use Rattle.club_core.specs.declared.challenges.Challenge.{Challenge}
use Rattle.club_core.specs.declared.challenges.ChallengeState.{ChallengeState}
use Rattle.club_core.specs.declared.challenges.ChallengeState.TheVariants.{Withdrawn, Refused, Accepted}
use Rattle.club_core.specs.Members as members
use Rattle.club_core.specs.Members.{find_id, member_tests, same_member}
use Rattle.club_core.specs.Imports.{Import}
use Rattle.club_core.specs.Events.{Event, has_event_name, event_kind, event_tests, same_event, declaring}
use Rattle.club_core.specs.Seats.{has_member_name, seat_step}
use Rattle.club_core.specs.Challenges.{is_under, challenge_under, challenge_by, put_challenge, is_open, standing_as}
use Rattle.club_core.specs.Challenges.{opening_step, withdrawal_step, answer_step}
use Rattle.club_core.specs.Game.{Game}
use Rattle.club_core.specs.Step.{GameCommand, game_step, ruling_step}
use Rattle.club_core.specs.State.{AnyGame, draughts, shogi, State, Command, add_member, add_event, seat, import_record}
use Rattle.club_core.specs.State.{on_game, sweep, open_challenge, withdraw_challenge, answer_challenge, new_key}
use Rattle.club_core.specs.State.{close_event, rule, Request}
use Rattle.club_core.specs.State.{state_after, place, terms_at, key_of, pairing_of, game_under, any_under, draughts_in}
use Rattle.club_core.specs.State.{shogi_in, caller_of, with_members, with_events, with_new_game, with_imported}
use Rattle.club_core.specs.State.{with_game}
use Rattle.club_core.specs.State.{with_challenge, challenge_game, with_answer, swept_any, with_swept, import_looked_up}
use Rattle.club_core.specs.State.{import_as, step_game, step_ruling, step_command, step_by, next, fold}
use Rattle.club_laws.proofs.Lists.{get-append, set-got, map-at}
use Rattle.club_core.specs.Keys.{with_key, key_step}
use Rattle.club_core.specs.Closings.{closed_at, close_step}
use Rattle.club_laws.proofs.Accepts.{outcome-later, officer-later, officer-adds}
use Rattle.club_laws.proofs.ArbiterSteps.{was-keyed, was-closed, with_key-later, closed_at-later}
use Rattle.club_laws.proofs.LaterParts.{IsEachLater, each-later-refl, each-later-trans, each-later-append}
use Rattle.club_laws.proofs.LaterParts.{each-later-set, IsLaterMember, later-member-refl, later-member-trans}
use Rattle.club_laws.proofs.LaterParts.{IsLaterEvent, later-event-refl, later-event-trans}
use Rattle.club_laws.proofs.GameSteps.{IsLaterGame, later-game-refl}
use Rattle.club_laws.proofs.GameSteps.{later-game-trans}
use Rattle.club_laws.proofs.GameSteps.{was-given, swept-game-later}
use Rattle.club_laws.proofs.RulingSteps.{was-ruled, was-ruled-later}
use Rattle.club_laws.proofs.PutChallenges.{under-key, under-same, under-found, under-put}
use Rattle.club_laws.proofs.Challenged.{IsLaterChallenge, later-challenge-refl, later-challenge-trans, closed-later}
use Rattle.club_laws.proofs.Challenged.{was-opened, was-withdrawn, was-answered}

-- a challenge is found where one was put that follows from the one in its place
put-found : (cs : List Challenge) (new c : Challenge) (member number : ℕ) → challenge_under cs member number ≡ Some c
    → ((old : Challenge) → challenge_under cs new.member new.number ≡ Some old → IsLaterChallenge old new) → (b : Bool)
    → is_under member number new ≡ b → challenge_under (put_challenge cs new) member number
    ≡ (if b then Some new else challenge_under cs member number) → (x : Challenge)
    × (challenge_under (put_challenge cs new) member number ≡ Some x) × IsLaterChallenge c x
put-found cs new c member number at fits true is found =
    let key = under-key member number new is in
    (new, found, fits c (under-same cs member number _ _ c (sym key.0) (sym key.1) at))
put-found cs new c member number at fits false is found = (c, found ∙ at, later-challenge-refl c)

module _ {DP DM DE DT SP SM SE ST : Type 0} (kinds : ClubRules DP DM DE DT SP SM SE ST) where
  -- a game stays one of its kind, and becomes a later one
  abbrev pub IsLaterAny : AnyGame DM SM → AnyGame DM SM → Type 0
  IsLaterAny (draughts game) new = (later : Game DM) × (new ≡ draughts later) × IsLaterGame kinds.draughts game later
  IsLaterAny (shogi game) new = (later : Game SM) × (new ≡ shogi later) × IsLaterGame kinds.shogi game later

  pub record IsLater (s t : State DM SM) : Type 0 where
    pub last : s.last ≤ t.last
    pub arbiter : t.has_arbiter ≡ s.has_arbiter
    pub members : IsEachLater IsLaterMember s.members t.members
    pub events : IsEachLater IsLaterEvent s.events t.events
    pub games : (n : ℕ) (g : AnyGame DM SM) → slice_get s.games n ≡ Some g → (new : AnyGame DM SM)
        × (slice_get t.games n ≡ Some new) × IsLaterAny g new
    pub challenges : (member number : ℕ) (c : Challenge) → challenge_under s.challenges member number ≡ Some c
        → (new : Challenge) × (challenge_under t.challenges member number ≡ Some new) × IsLaterChallenge c new

  later-any-refl : (g : AnyGame DM SM) → IsLaterAny g g
  later-any-refl (draughts game) = (game, refl, later-game-refl kinds.draughts game)
  later-any-refl (shogi game) = (game, refl, later-game-refl kinds.shogi game)

  later-any-trans : (a b c : AnyGame DM SM) → IsLaterAny a b → IsLaterAny b c → IsLaterAny a c
  later-any-trans (draughts a) b c first second =
      let (x, is_x, to_x) = first in
      let (y, is_y, to_y) : IsLaterAny (draughts x) c = rw is_x at second in
      (y, is_y, later-game-trans kinds.draughts a x y to_x to_y)
  later-any-trans (shogi a) b c first second =
      let (x, is_x, to_x) = first in
      let (y, is_y, to_y) : IsLaterAny (shogi x) c = rw is_x at second in
      (y, is_y, later-game-trans kinds.shogi a x y to_x to_y)

  -- a later game has its key, its event and its players
  pub key-later : (g new : AnyGame DM SM) → IsLaterAny g new → key_of new ≡ key_of g
  key-later (draughts game) new later = let (x, is, to) = later in
      ap (λ g. key_of g) is ∙ ap (λ g. g.key) to.head
  key-later (shogi game) new later = let (x, is, to) = later in
      ap (λ g. key_of g) is ∙ ap (λ g. g.key) to.head

  pub pairing-later : (g new : AnyGame DM SM) → IsLaterAny g new → pairing_of new ≡ pairing_of g
  pairing-later (draughts game) new later = let (x, is, to) = later in
      ap (λ g. pairing_of g) is ∙ ap (λ g. pairing_of {DM = DM} {SM = SM} (draughts g)) to.head
  pairing-later (shogi game) new later = let (x, is, to) = later in
      ap (λ g. pairing_of g) is ∙ ap (λ g. pairing_of {DM = DM} {SM = SM} (shogi g)) to.head

  games-stay : (s : State DM SM) (n : ℕ) (g : AnyGame DM SM) → slice_get s.games n ≡ Some g → (new : AnyGame DM SM)
      × (slice_get s.games n ≡ Some new) × IsLaterAny g new
  games-stay s n g at = (g, at, later-any-refl g)

  challenges-stay : (s : State DM SM) (member number : ℕ) (c : Challenge)
      → challenge_under s.challenges member number ≡ Some c → (new : Challenge)
      × (challenge_under s.challenges member number ≡ Some new) × IsLaterChallenge c new
  challenges-stay s member number c at = (c, at, later-challenge-refl c)

  members-stay : (s : State DM SM) → IsEachLater IsLaterMember s.members s.members
  members-stay s = each-later-refl IsLaterMember later-member-refl s.members

  events-stay : (s : State DM SM) → IsEachLater IsLaterEvent s.events s.events
  events-stay s = each-later-refl IsLaterEvent later-event-refl s.events

  pub later-refl : (s : State DM SM) → IsLater s s
  later-refl s =
      record {
        last = omega arith;
        arbiter = refl;
        members = members-stay s;
        events = events-stay s;
        games = games-stay s;
        challenges = challenges-stay s;
      }

  pub later-trans : (s t u : State DM SM) → IsLater s t → IsLater t u → IsLater s u
  later-trans s t u first second =
      record {
        last = omega (arith, first.last, second.last);
        arbiter = second.arbiter ∙ first.arbiter;
        members = each-later-trans IsLaterMember later-member-trans s.members t.members u.members first.members
            second.members;
        events = each-later-trans IsLaterEvent later-event-trans s.events t.events u.events first.events
            second.events;
        games = λ n g at.
            let (middle, at_middle, to_middle) = first.games n g at in
            let (new, at_new, to_new) = second.games n middle at_middle in
            (new, at_new, later-any-trans g middle new to_middle to_new);
        challenges = λ member number c at.
            let (middle, at_middle, to_middle) = first.challenges member number c at in
            let (new, at_new, to_new) = second.challenges member number middle at_middle in
            (new, at_new, later-challenge-trans c middle new to_middle to_new);
      }

  -- what one command does to a state at a moment that is not before its last
  module _ (s : State DM SM) (moment : ℕ) (rises : s.last ≤ moment) where
    all-members-later : (all : List members.Member) → IsEachLater IsLaterMember s.members all
        → IsLater s (with_members s moment all)
    all-members-later all later =
        record {
          last = rises;
          arbiter = refl;
          members = later;
          events = events-stay s;
          games = games-stay s;
          challenges = challenges-stay s;
        }

    all-events-later : (all : List Event) → IsEachLater IsLaterEvent s.events all → IsLater s (with_events s moment all)
    all-events-later all later =
        record {
          last = rises;
          arbiter = refl;
          members = members-stay s;
          events = later;
          games = games-stay s;
          challenges = challenges-stay s;
        }

    pub members-later : (more : List members.Member) → IsLater s (with_members s moment (s.members ++ more))
    members-later more =
        all-members-later (s.members ++ more) (each-later-append IsLaterMember later-member-refl s.members more)

    pub events-later : (more : List Event) → IsLater s (with_events s moment (s.events ++ more))
    events-later more =
        all-events-later (s.events ++ more) (each-later-append IsLaterEvent later-event-refl s.events more)

    -- a member is given another key
    pub keyed-later : (i : ℕ) (m : members.Member) (key : List ℕ) → slice_get s.members i ≡ Some m
        → IsLater s (with_members s moment (slice_set s.members i (with_key m key)))
    keyed-later i m key at =
        all-members-later (slice_set s.members i (with_key m key))
        (each-later-set IsLaterMember later-member-refl s.members i m (with_key m key) at (with_key-later m key))

    -- an event is closed
    pub closing-later : (i : ℕ) (e : Event) → slice_get s.events i ≡ Some e → is_some e.closed ≡ false
        → IsLater s (with_events s moment (slice_set s.events i (closed_at e moment)))
    closing-later i e at was_open =
        all-events-later (slice_set s.events i (closed_at e moment))
        (each-later-set IsLaterEvent later-event-refl s.events i e (closed_at e moment) at
        (closed_at-later e moment was_open))

    games-later : (all : List (AnyGame DM SM)) → ((n : ℕ) (g : AnyGame DM SM) → slice_get s.games n ≡ Some g
        → (new : AnyGame DM SM) × (slice_get all n ≡ Some new) × IsLaterAny g new)
        → IsLater s (record s { last = moment; games = all })
    games-later all later =
        record {
          last = rises;
          arbiter = refl;
          members = members-stay s;
          events = events-stay s;
          games = later;
          challenges = challenges-stay s;
        }

    pub game-added-later : (new : AnyGame DM SM) → IsLater s (with_imported s moment new)
    game-added-later new =
        games-later (s.games ++ new ∷ []) (λ n g at. (g, get-append s.games _ n g at, later-any-refl g))

    pub game-later : (id : ℕ) (old new : AnyGame DM SM) → place s.games id ≡ Some old → IsLaterAny old new
        → IsLater s (with_game s moment id new)
    game-later zero old new at later = cc
    game-later (suc k) old new at later =
        games-later (slice_set s.games (suc k - 1) new)
        (λ n g is.
        elim (set-got s.games (suc k - 1) new n g is) [
          | inl stays ↦ (g, stays, later-any-refl g)
          | inr put ↦
              let before : suc k - 1 ≡ k = omega arith in
              let there : Some old ≡ Some g = sym at ∙ (ap (slice_get s.games) (sym (put.0 ∙ before)) ∙ is) in
              let e : old ≡ g = cc in
              (new, put.1, rw (← e) later)
        ])

    -- a challenge is put where it follows from the one in its place, if there is one
    pub challenge-later : (new : Challenge)
        → ((old : Challenge) → challenge_under s.challenges new.member new.number ≡ Some old
        → IsLaterChallenge old new) → IsLater s (with_challenge s moment new)
    challenge-later new fits =
        record {
          last = rises;
          arbiter = refl;
          members = members-stay s;
          events = events-stay s;
          games = games-stay s;
          challenges = λ member number c at. put-found s.challenges new c member number at fits
              (is_under member number new) refl (under-put s.challenges new member number);
        }

    -- an open challenge is closed
    pub close-later : (member number : ℕ) (old : Challenge) (standing : ChallengeState)
        → challenge_under s.challenges member number ≡ Some old → is_open old.standing ≡ true
        → IsLater s (with_challenge s moment (standing_as old standing))
    close-later member number old standing found waited =
        let key = under-key member number old (under-found s.challenges member number old found) in
        challenge-later (standing_as old standing)
        (λ other at.
        let there : Some old ≡ Some other = sym found ∙ under-same s.challenges _ _ member number other key.0 key.1 at
        in
        let e : old ≡ other = cc in
        rw (← e) (closed-later old standing waited))

    pub opened-later : (id number : ℕ) (event other : List ℕ) (first : Bool) (new : Challenge) (reply : Reply)
        → opening_step s.members s.events (challenge_under s.challenges id number) id number event other first
        ≡ accepted new reply → IsLater s (with_challenge s moment new)
    opened-later id number event other first new reply is =
        let was = was-opened s.events id number (find_id (has_event_name event) s.events)
        (find_id (has_member_name other) s.members) first (challenge_under s.challenges id number) new reply is in
        challenge-later new
        (λ old at.
        let none : None ≡ Some old = sym was.fresh
        ∙ under-same s.challenges _ _ id number old was.by_caller was.has_number at in
        absurd cc)

    pub withdrawn-later : (id number : ℕ) (new : Challenge) (reply : Reply)
        → withdrawal_step (challenge_under s.challenges id number) ≡ accepted new reply
        → IsLater s (with_challenge s moment new)
    withdrawn-later id number new reply is =
        let was = was-withdrawn (challenge_under s.challenges id number) new reply is in
        rw (← was.stands) (close-later id number was.old Withdrawn was.found was.waited)

  pub answered-later : (s : State DM SM) (moment : ℕ) (by : Option ℕ) (number id : ℕ) (accept : Bool) (new : Challenge)
      (reply : Reply) → s.last ≤ moment
      → answer_step s.events (challenge_by s.challenges by number) (length s.games) id accept ≡ accepted new reply
      → IsLater s (with_answer s moment accept new)
  answered-later s moment by number id false new reply rises is =
      let was = was-answered s.events s.challenges by number (length s.games) id false new reply is in
      rw (← was.stands) (close-later s moment rises was.member number was.old Refused was.found was.waited)
  answered-later s moment by number id true new reply rises is =
      let was = was-answered s.events s.challenges by number (length s.games) id true new reply is in
      let played : State DM SM = with_imported s moment (challenge_game s moment was.old) in
      rw (← was.stands)
      (later-trans s played _ (game-added-later s moment rises (challenge_game s moment was.old))
      (close-later played moment (omega arith) was.member number was.old (Accepted (length s.games + 1)) was.found
      was.waited))

  pub swept-any-later : (s : State DM SM) (moment : ℕ) (g : AnyGame DM SM) → IsLaterAny g (swept_any kinds s moment g)
  swept-any-later s moment (draughts g) =
      (_, refl, swept-game-later kinds.draughts (terms_at (place s.events g.event)) g moment)
  swept-any-later s moment (shogi g) =
      (_, refl, swept-game-later kinds.shogi (terms_at (place s.events g.event)) g moment)

  -- each command leads to a later state
  module _ (s : State DM SM) (moment : ℕ) (rises : s.last ≤ moment) where
    pub swept-later : IsLater s (with_swept kinds s moment)
    swept-later =
        games-later s moment rises (map (swept_any kinds s moment) s.games)
        (λ n g at.
        (swept_any kinds s moment g, map-at (swept_any kinds s moment) s.games n g at, swept-any-later s moment g))

    step-game-later : (id : ℕ) (who : Caller) (command : GameCommand) (g : Option (AnyGame DM SM))
        → place s.games id ≡ g → IsLater s (state_after s (step_game kinds s moment id who command g))
    step-game-later id who command None at = later-refl s
    step-game-later id who command (Some (draughts game)) at =
        let terms = terms_at (place s.events game.event) in
        outcome-later (λ t. IsLater s t) s (λ new. with_game s moment id (draughts new))
        (game_step kinds.draughts terms game moment who command) (later-refl s)
        (λ new reply is. game-later s moment rises id (draughts game) (draughts new) at
        (let was = was-given kinds.draughts terms game moment who command new reply is in (new, refl, was.later)))
    step-game-later id who command (Some (shogi game)) at =
        let terms = terms_at (place s.events game.event) in
        outcome-later (λ t. IsLater s t) s (λ new. with_game s moment id (shogi new))
        (game_step kinds.shogi terms game moment who command) (later-refl s)
        (λ new reply is. game-later s moment rises id (shogi game) (shogi new) at
        (let was = was-given kinds.shogi terms game moment who command new reply is in (new, refl, was.later)))

    no-game-later : (who : Caller) → IsLater s (state_after s (by_officer who (refused UnknownGame)))
    no-game-later Officer = later-refl s
    no-game-later (Member id) = later-refl s

    step-ruling-later : (id number : ℕ) (ruling : Ruling) (who : Caller) (g : Option (AnyGame DM SM))
        → place s.games id ≡ g
        → IsLater s (state_after s (by_officer who (step_ruling kinds s moment id number ruling g)))
    step-ruling-later id number ruling who None at = no-game-later who
    step-ruling-later id number ruling who (Some (draughts game)) at =
        officer-later (λ t. IsLater s t) s (λ new. with_game s moment id (draughts new)) who
        (ruling_step kinds.draughts game number ruling moment) (later-refl s)
        (λ new reply is. game-later s moment rises id (draughts game) (draughts new) at (
          new,
          refl,
          was-ruled-later kinds.draughts game number ruling moment new reply
              (was-ruled kinds.draughts game number ruling moment new reply is),
        ))
    step-ruling-later id number ruling who (Some (shogi game)) at =
        officer-later (λ t. IsLater s t) s (λ new. with_game s moment id (shogi new)) who
        (ruling_step kinds.shogi game number ruling moment) (later-refl s)
        (λ new reply is. game-later s moment rises id (shogi game) (shogi new) at (
          new,
          refl,
          was-ruled-later kinds.shogi game number ruling moment new reply
              (was-ruled kinds.shogi game number ruling moment new reply is),
        ))

    import-later : (who : Caller) (given : Import) (kind : GameKind)
        → IsLater s (state_after s (by_officer who (import_as kinds s moment given kind)))
    import-later who given Draughts =
        officer-later (λ t. IsLater s t) s _ who
        (import_looked_up kinds.draughts kinds.draughts_records s given (draughts_in (any_under s.games given.key)))
        (later-refl s) (λ i reply is. game-added-later s moment rises _)
    import-later who given Shogi =
        officer-later (λ t. IsLater s t) s _ who
        (import_looked_up kinds.shogi kinds.shogi_records s given (shogi_in (any_under s.games given.key)))
        (later-refl s) (λ i reply is. game-added-later s moment rises _)

    command-later : (who : Caller) (command : Command)
        → IsLater s (state_after s (step_command kinds s moment who command))
    command-later who (add_member name key) =
        officer-adds (λ t. IsLater s t) s (with_members s moment) who (same_member s.members name key)
        (member_tests s.members name key) (s.members ++ record { name = name; key = key; later = [] } ∷ [])
        (member_added (length s.members + 1)) (later-refl s)
        (λ tests. members-later s moment rises (record { name = name; key = key; later = [] } ∷ []))
    command-later who (add_event event) =
        officer-adds (λ t. IsLater s t) s (with_events s moment) who (same_event s.events event)
        (event_tests s.events event) (s.events ++ declaring event ∷ []) (event_added (length s.events + 1))
        (later-refl s) (λ tests. events-later s moment rises (declaring event ∷ []))
    command-later who (seat key event first second) =
        officer-later (λ t. IsLater s t) s (with_new_game s moment key) who
        (seat_step s.members s.events (game_under s.games key) _ key event first second) (later-refl s)
        (λ pairing reply is. game-added-later s moment rises _)
    command-later who (import_record given) = import-later who given (event_kind s.events given.event)
    command-later who (on_game id command) = step-game-later id who command (place s.games id) refl
    command-later Officer sweep = swept-later
    command-later (Member id) sweep = later-refl s
    command-later Officer (open_challenge number event other first) = later-refl s
    command-later (Member id) (open_challenge number event other first) =
        outcome-later (λ t. IsLater s t) s (with_challenge s moment)
        (opening_step s.members s.events (challenge_under s.challenges id number) id number event other first)
        (later-refl s) (opened-later s moment rises id number event other first)
    command-later Officer (withdraw_challenge number) = later-refl s
    command-later (Member id) (withdraw_challenge number) =
        outcome-later (λ t. IsLater s t) s (with_challenge s moment)
        (withdrawal_step (challenge_under s.challenges id number)) (later-refl s)
        (withdrawn-later s moment rises id number)
    command-later Officer (answer_challenge challenger number accept) = later-refl s
    command-later (Member id) (answer_challenge challenger number accept) =
        let by = find_id (has_member_name challenger) s.members in
        outcome-later (λ t. IsLater s t) s (with_answer s moment accept)
        (answer_step s.events (challenge_by s.challenges by number) (length s.games) id accept) (later-refl s)
        (λ new reply. answered-later s moment by number id accept new reply rises)
    command-later who (new_key name number key) =
        officer-later (λ t. IsLater s t) s (with_members s moment) who (key_step s.members name number key)
        (later-refl s)
        (λ new reply is.
        let was = was-keyed s.members name number key new reply is in
        rw (← was.stands) (keyed-later s moment rises (was.id - 1) was.member key was.stood))
    command-later who (close_event event) =
        officer-later (λ t. IsLater s t) s (with_events s moment) who (close_step s.events event moment) (later-refl s)
        (λ new reply is.
        let was = was-closed s.events event moment new reply is in
        rw (← was.stands) (closing-later s moment rises (was.id - 1) was.event was.stood was.was_open))
    command-later who (rule id number ruling) = step-ruling-later id number ruling who (place s.games id) refl

    pub by-later : (who : Option Caller) (command : Command)
        → IsLater s (state_after s (step_by kinds s moment who command))
    by-later None command = later-refl s
    by-later (Some who) command = command-later who command

  -- each request leads to a later state
  pub next-later : (s : State DM SM) (r : Request) → IsLater s (next kinds s r)
  next-later s r = by-later s (max r.moment s.last) (omega arith) (caller_of s.members r.who) r.command

  -- a game that stands in a state is a later one in each later state
  pub place-later : (s t : State DM SM) → IsLater s t → (id : ℕ) (g : AnyGame DM SM) → place s.games id ≡ Some g
      → (new : AnyGame DM SM) × (place t.games id ≡ Some new) × IsLaterAny g new
  place-later s t later zero g at = cc
  place-later s t later (suc n) g at = later.games n g at

  pub fold-later : (s : State DM SM) (rs : List Request) → IsLater s (fold kinds s rs)
  fold-later s [] = later-refl s
  fold-later s (r ∷ rs) = later-trans s (next kinds s r) (fold kinds (next kinds s r) rs) (next-later s r)
      (fold-later (next kinds s r) rs)
