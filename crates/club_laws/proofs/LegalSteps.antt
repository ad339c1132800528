-- A request leaves a legal state legal.
use Rattle.std.proofs.Common.{◌≡◌, ℕ, zero, suc, ◌+◌, ◌-◌, ◌<◌, ◌≤◌, List, [], ◌∷◌, ◌++◌, length, map, Option}
use Rattle.std.proofs.Common.{Some, None, Bool, true, false, not, ◌&&◌, refl, sym, ◌∙◌, ap, subst, arith, add-one}
use Rattle.std.specs.Prelude.{IsSome, IsTrue, max, nat_lt, nat_le, if◌then◌else◌}
use Rattle.std.proofs.lemmas.Bool.{ltb-false}
use Rattle.std.proofs.lemmas.Bool.Decides.{nat_tests}
use Rattle.std.proofs.lemmas.List.{length-map}
use Rattle.squares.specs.declared.sides.Side.{Side}
use Rattle.squares.specs.declared.sides.Score.{Score}
use Rattle.squares.specs.Sides.{other}
use Rattle.club_rules.specs.declared.names.GameKind.{GameKind}
use Rattle.club_rules.specs.declared.names.GameKind.TheVariants.{Draughts, Shogi}
use Rattle.club_rules.specs.GameRules.{GameRules}
use Rattle.club_core.specs.ClubRules.{ClubRules}
use Rattle.club_requests.specs.declared.outside_end.OutsideEnd.{OutsideEnd}
use Rattle.club_requests.specs.declared.outside_end.OutsideEnd.TheVariants.{Time, Recorded}
use Rattle.club_requests.specs.declared.rulings.Ruling.{Ruling}
use Rattle.club_core.specs.declared.rows.Offer.{Offer}
use Rattle.club_core.specs.declared.challenges.Challenge.{Challenge}
use Rattle.club_core.specs.declared.challenges.ChallengeState.TheVariants.{Open, Withdrawn, Refused, Accepted}
use Rattle.club_requests.specs.declared.requests.Caller.{Caller}
use Rattle.club_requests.specs.declared.requests.Caller.TheVariants.{Officer, Member}
use Rattle.club_requests.specs.Limits.{last_moment, most_games}
use Rattle.club_requests.specs.declared.refusals.Refusal.TheVariants.{UnknownGame}
use Rattle.club_requests.specs.Outcome.{Reply, member_added, event_added, accepted, refused, map_outcome, by_officer}
use Rattle.club_core.specs.Members as members
use Rattle.club_core.specs.Members.{find_id, member_tests, same_member}
use Rattle.club_core.specs.Events.{Terms, Event, event_kind, has_event_name, event_tests, same_event, declaring}
use Rattle.club_core.specs.declared.seats.Pairing.{Pairing}
use Rattle.club_core.specs.Seats.{has_member_name, seat_step}
use Rattle.club_core.specs.Challenges.{challenge_under, challenge_by, is_open, pairing_for, standing_as, opening_step}
use Rattle.club_core.specs.Challenges.{withdrawal_step, answer_step}
use Rattle.club_core.specs.Keys.{key_step}
use Rattle.club_core.specs.Closings.{close_step}
use Rattle.club_core.specs.Imports.{Import}
use Rattle.club_core.specs.Legal.{MayEndBy}
use Rattle.club_core.specs.Game.{Game, clocks_of, left_of, turn_of, last_position}
use Rattle.club_core.specs.Step.{GameCommand, move, offer_draw, accept_draw, resign, claim_time, declare, has_offer}
use Rattle.club_core.specs.Step.{is_over, is_overdue, ended, swept, game_step, ruling_step}
use Rattle.club_core.specs.State.{AnyGame, draughts, shogi, State, Command, add_member, add_event, seat, import_record}
use Rattle.club_core.specs.State.{on_game, sweep, open_challenge, withdraw_challenge, answer_challenge, new_key}
use Rattle.club_core.specs.State.{close_event, rule}
use Rattle.club_core.specs.State.{Who, officer, takes}
use Rattle.club_core.specs.State.{key_holder, Request, state_after, place, kind_at, key_of, game_under, seated_as}
use Rattle.club_core.specs.State.{caller_of, caller_found, has_member_key, with_members, with_events, with_new_game}
use Rattle.club_core.specs.State.{with_imported, with_game, with_challenge, challenge_game, with_answer, terms_at}
use Rattle.club_core.specs.State.{rulings_of, swept_any, with_swept, import_as, step_game, step_ruling, step_command}
use Rattle.club_core.specs.State.{step_by, next}
use Rattle.club_core.specs.LegalState.{Each, IsGameOf, IsLegalIn, IsLegalChallenge, IsLegalState}
use Rattle.club_core.proofs.Proved.{AreRules, not-some, checked-legal, legal-played, running-alone, legal-offered}
use Rattle.club_core.proofs.Proved.{legal-ended}
use Rattle.club_laws.proofs.Lists.{some-is, both-true, each-append, at-last, find_id-found, map-got}
use Rattle.club_laws.proofs.Accepts.{outcome-later, officer-later, officer-adds}
use Rattle.club_laws.proofs.ArbiterSteps.{was-keyed, was-closed}
use Rattle.club_laws.proofs.PutChallenges.{under-each}
use Rattle.club_laws.proofs.Challenged.{was-opened, was-withdrawn, was-answered}
use Rattle.club_laws.proofs.GameSteps.{IsLaterGame, Finds, Leaves, was-given, swept-game-later, swept-rulings, is-next}
use Rattle.club_laws.proofs.RuledGames.{ruled-legal}
use Rattle.club_laws.proofs.RulingSteps.{was-ruled, was-ruled-later}
use Rattle.club_laws.proofs.SeatSteps.{was-seated, seated-key, seated-pairing, seated-rulings, fresh-key}
use Rattle.club_laws.proofs.SeatSteps.{nat_le-false}
use Rattle.club_laws.proofs.Later.{IsLaterAny, key-later, game-later, game-added-later, close-later, opened-later}
use Rattle.club_laws.proofs.Later.{withdrawn-later, answered-later, swept-any-later, swept-later}
use Rattle.club_laws.proofs.AddedSteps.{not-false, false-true, since-until, IsLegalAt, legal-at, restanding}
use Rattle.club_laws.proofs.AddedSteps.{changed-game}
use Rattle.club_laws.proofs.AddedSteps.{challenge-stays, members-added, events-added, any-seated, any-added, game-added}
use Rattle.club_laws.proofs.AddedSteps.{challenge-put, game-changed, games-changed, found-some, member-keyed}
use Rattle.club_laws.proofs.AddedSteps.{event-closed}

some-offer : (offer : Option Offer) (side : Side) (ply : ℕ) → has_offer offer side ply ≡ true → IsSome offer
some-offer None side ply is = cc
some-offer (Some offer) side ply is = refl

-- more seconds have gone than were left
is-late : (left since moment : ℕ) → nat_lt left (moment - since) ≡ true → since + left < moment
is-late left since moment is = grind (arith, nat_tests)

-- what a command makes of a legal game is legal
module _ {P M E T : Type 0} (laws : GameRules P M E T) (are_rules : AreRules laws) (terms : Terms) (game : Game M)
    (moment : ℕ) (own : IsLegalAt laws terms moment game) (start : game.start ≤ moment) where
  not-timed : is_over laws game ≡ false → game.outside ≡ Some Time → ⊥
  not-timed running is =
      let alone : game.outside ≡ None = running-alone laws are_rules terms game own.legal (not-some _ running) in
      let none : None ≡ Some Time = sym alone ∙ is in
      absurd cc

  ended-legal : (new : Game M) (end : OutsideEnd) → ended game end ≡ new → is_over laws game ≡ false
      → MayEndBy laws terms (ended game end) end → ((score : Score) → end ≡ Recorded score → ⊥)
      → (end ≡ Time → (clocks_of game terms).since + left_of (turn_of laws game) (clocks_of game terms) < moment)
      → IsLegalAt laws terms moment new
  ended-legal new end is running may unrecorded lost =
      rw (← is)
      (record {
        legal = legal-ended laws are_rules terms game own.legal end (not-some _ running) may
            (λ score at. absurd (unrecorded score at));
        entries = own.entries;
        rulings = own.rulings;
        lost_by_time = λ at. lost (let both : Some end ≡ Some Time = at in cc);
      })

  side-legal : (side : Side) (command : GameCommand) (new : Game M) (reply : Reply)
      → Finds laws terms game moment side command → Leaves laws terms game moment side command new reply
      → IsLegalAt laws terms moment new
  side-legal side (move ply text) new reply found left =
      let (m, checked_is, stands, answer) = left in
      let since = since-until terms game moment start own.entries in
      rw (← stands)
      (record {
        legal = legal-played laws are_rules terms game own.legal m moment (not-some _ found.0) own.rulings since
            (ltb-false _ _ found.1.1.1.1.0)
            (checked-legal laws terms game moment (last_position laws game) _ m checked_is);
        entries = each-append (λ e. e.moment ≤ moment) game.entries _ own.entries (omega arith);
        rulings = own.rulings;
        lost_by_time = λ is. absurd (not-timed found.0 is);
      })
  side-legal side (offer_draw ply) new reply found left =
      rw (← left.0)
      (record {
        legal = legal-offered laws are_rules terms game own.legal side ply (not-some _ found.0.0) found.1
            (is-next ply (length game.entries) found.0.1.0);
        entries = own.entries;
        rulings = own.rulings;
        lost_by_time = λ is. absurd (not-timed found.0.0 is);
      })
  side-legal side (accept_draw ply) new reply found left =
      ended-legal new _ left.0 found.0.0 (some-offer game.offer (other side) ply (not-false _ found.0.1.1.0))
      (λ score is. cc) (λ is. cc)
  side-legal side resign new reply found left =
      ended-legal new _ left.0 found.0 tt (λ score is. cc) (λ is. cc)
  side-legal side claim_time new reply found left =
      ended-legal new _ left.0 found.0 tt (λ score is. cc) (λ is. is-late _ _ moment (not-false _ found.1.1.0))
  side-legal side (declare ply) new reply found left =
      ended-legal new _ left.0 found.0 (both-true _ _ (not-false _ found.1.1.1.0)) (λ score is. cc) (λ is. cc)

  -- a sweep ends a game where its side to move has lost by time
  swept-legal : IsLegalAt laws terms moment (swept laws terms game moment)
  swept-legal = late-legal (is_over laws game) (is_overdue laws terms game moment) refl refl
    where
      late-legal : (over late : Bool) → is_over laws game ≡ over → is_overdue laws terms game moment ≡ late
          → IsLegalAt laws terms moment (if not over && late then ended game Time else game)
      late-legal true late running is = own
      late-legal false false running is = own
      late-legal false true running is =
          ended-legal (ended game Time) Time refl running tt (λ score at. cc) (λ at. is-late _ _ moment is)

-- a command on a game of one kind
module _ {DP DM DE DT SP SM SE ST P M E T : Type 0} (kinds : ClubRules DP DM DE DT SP SM SE ST)
    (laws : GameRules P M E T) (are_rules : AreRules laws) (kind : GameKind) (wrap : Game M → AnyGame DM SM)
    (wrap_legal : (t : State DM SM) (g : Game M) → IsGameOf laws kind t g → IsLegalIn kinds t (wrap g))
    (wrap_later : (g new : Game M) → IsLaterGame laws g new → IsLaterAny kinds (wrap g) (wrap new))
    (wrap_rulings : (g : Game M) → rulings_of (wrap g) ≡ g.rulings)
    (s : State DM SM) (moment : ℕ) (rises : s.last ≤ moment) where
  caller-kept : (within : moment ≤ last_moment) (legal : IsLegalState kinds s) (id : ℕ) (who : Caller)
      (command : GameCommand) (game : Game M) → place s.games id ≡ Some (wrap game) → IsGameOf laws kind s game
      →
      IsLegalState kinds
      (state_after s
      (map_outcome (λ new. with_game s moment id (wrap new))
      (game_step laws (terms_at (place s.events game.event)) game moment who command)))
  caller-kept within legal id who command game at of =
      let terms = of.event.terms in
      rw of.in_event
      (outcome-later (IsLegalState kinds) s (λ new. with_game s moment id (wrap new))
      (game_step laws terms game moment who command) legal
      (λ new reply is.
      let was = was-given laws terms game moment who command new reply is in
      let later_any = wrap_later game new was.later in
      let later = game-later kinds s moment rises id (wrap game) (wrap new) at later_any in
      let start : game.start ≤ moment = omega (arith, of.start, rises) in
      game-changed kinds s moment rises within legal id (wrap game) (wrap new) at later_any
      (λ none. wrap_rulings new ∙ (was.rulings ∙ sym (wrap_rulings game)))
      (wrap_legal _ new
      (changed-game kinds s _ later laws kind game new of was.later
      (side-legal laws are_rules terms game moment (legal-at laws kind s moment game of rises) start was.side command
      new reply was.found was.left)))))

  -- a ruling of the arbiter on a game
  ruling-kept : (within : moment ≤ last_moment) (legal : IsLegalState kinds s) (id number : ℕ) (ruling : Ruling)
      (who : Caller) (game : Game M) → s.has_arbiter ≡ true → place s.games id ≡ Some (wrap game)
      → IsGameOf laws kind s game
      →
      IsLegalState kinds
      (state_after s
      (by_officer who
      (map_outcome (λ new. with_game s moment id (wrap new)) (ruling_step laws game number ruling moment))))
  ruling-kept within legal id number ruling who game has at of =
      officer-later (IsLegalState kinds) s (λ new. with_game s moment id (wrap new)) who
      (ruling_step laws game number ruling moment) legal
      (λ new reply is.
      let was = was-ruled laws game number ruling moment new reply is in
      let later_game = was-ruled-later laws game number ruling moment new reply was in
      let later_any = wrap_later game new later_game in
      let later = game-later kinds s moment rises id (wrap game) (wrap new) at later_any in
      let start : game.start ≤ moment = omega (arith, of.start, rises) in
      game-changed kinds s moment rises within legal id (wrap game) (wrap new) at later_any
      (λ none. absurd (false-true s.has_arbiter none has))
      (wrap_legal _ new
      (changed-game kinds s _ later laws kind game new of later_game
      (rw (← was.stands)
      (ruled-legal laws of.event.terms game number moment ruling (legal-at laws kind s moment game of rises) start
      was.tests)))))

  swept-kept : (game : Game M) (of : IsGameOf laws kind s game) → IsGameOf laws kind (with_swept kinds s moment)
      (swept laws (terms_at (place s.events game.event)) game moment)
  swept-kept game of =
      let start : game.start ≤ moment = omega (arith, of.start, rises) in
      rw of.in_event
      (changed-game kinds s _ (swept-later kinds s moment rises) laws kind game _ of
      (swept-game-later laws of.event.terms game moment)
      (swept-legal laws are_rules of.event.terms game moment (legal-at laws kind s moment game of rises) start))

pub in-place : {A : Type 0} (P : A → Type 0) (xs : List A) (id : ℕ) (x : A) → Each P xs → place xs id ≡ Some x → P x
in-place P xs zero x each at = cc
in-place P xs (suc n) x each at = each n x at

module _ {DP DM DE DT SP SM SE ST : Type 0} (kinds : ClubRules DP DM DE DT SP SM SE ST) where
  -- an import leaves a legal state legal
  abbrev pub KeepsByImport : Type 0
  KeepsByImport = (s : State DM SM) (moment : ℕ) → s.last ≤ moment → moment ≤ last_moment → IsLegalState kinds s
      → (who : Caller) (given : Import) → IsLegalState kinds
      (state_after s (by_officer who (import_as kinds s moment given (event_kind s.events given.event))))

-- the caller of a request is the officer or a member
abbrev IsCallerIn : List members.Member → Caller → Type 0
IsCallerIn all Officer = Unit {0}
IsCallerIn all (Member id) = IsSome (place all id)

-- who is the caller of a request
caller-in : (all : List members.Member) (key : List ℕ) (o : Option ℕ) → find_id (has_member_key key) all ≡ o
    → (who : Caller) → caller_found o ≡ Some who → IsCallerIn all who
caller-in all key None found who is = cc
caller-in all key (Some id) found Officer is = tt
caller-in all key (Some id) found (Member other) is = let e : id ≡ other = cc in
    rw (← e) (found-some (has_member_key key) all id found)

is-caller : (all : List members.Member) (w : Who) (who : Caller) → caller_of all w ≡ Some who → IsCallerIn all who
is-caller all officer Officer is = tt
is-caller all officer (Member id) is = cc
is-caller all (key_holder key) who is = caller-in all key (find_id (has_member_key key) all) refl who is

-- a game from a challenge
module _ {DP DM DE DT SP SM SE ST : Type 0} (kinds : ClubRules DP DM DE DT SP SM SE ST) where
  -- is legal
  challenge-seated : (t : State DM SM) (moment : ℕ) (c : Challenge) (e : Event) (b : Bool)
      → place t.events c.event ≡ Some e → IsLegalChallenge t c → moment ≤ t.last
      → IsLegalIn kinds t (seated_as e.game None (pairing_for (record c { first = b })) moment)
  challenge-seated t moment c e true at is now =
      any-seated kinds e.game t None (pairing_for (record c { first = true })) moment e at refl is.member is.other
      is.apart tt now
  challenge-seated t moment c e false at is now =
      any-seated kinds e.game t None (pairing_for (record c { first = false })) moment e at refl is.other is.member
      (λ same. is.apart (sym same)) tt now

  module _ (s : State DM SM) (moment : ℕ) (rises : s.last ≤ moment) (within : moment ≤ last_moment)
      (legal : IsLegalState kinds s) where
    -- a challenge that is accepted names its game
    accepted-kept : (c : Challenge) (member number : ℕ) → challenge_under s.challenges member number ≡ Some c
        → is_open c.standing ≡ true → nat_le most_games (length s.games) ≡ false
        → IsLegalState kinds (with_answer s moment true (standing_as c (Accepted (length s.games + 1))))
    accepted-kept c member number found waited room =
        let is_legal = under-each (IsLegalChallenge s) s.challenges member number c legal.challenges found in
        let kind = kind_at (place s.events c.event) in
        let game : AnyGame DM SM = challenge_game s moment c in
        let played : State DM SM = with_imported s moment game in
        let named = challenge-stays kinds s played (game-added-later kinds s moment rises game) c is_legal in
        let (e, at) = some-is (place s.events c.event) is_legal.event in
        let legal_then : IsLegalState kinds played =
        any-added kinds s moment rises within legal game
        (subst (λ k. IsLegalIn kinds played (seated_as k None (pairing_for c) moment)) (sym (ap kind_at at))
        (challenge-seated played moment c e c.first at named (omega arith)))
        (seated-rulings DM SM kind None (pairing_for c) moment) (nat_le-false _ _ room)
        (λ n g b at has same.
        let none : None ≡ Some b = sym (seated-key DM SM kind None (pairing_for c) moment) ∙ same in
        absurd cc) in
        challenge-put kinds played moment (omega arith) within legal_then (standing_as c (Accepted
        (length s.games + 1)))
        (close-later kinds played moment (omega arith) member number c (Accepted (length s.games + 1)) found waited)
        (restanding played c (Accepted (length s.games + 1)) named
        (λ id is.
        let e : length s.games + 1 ≡ id = cc in
        let next_id : id ≡ suc (length s.games) = sym e ∙ add-one (length s.games) in (
          game,
          ap (place (s.games ++ game ∷ [])) next_id ∙ at-last s.games game,
          seated-pairing DM SM kind None (pairing_for c) moment,
        )))

    -- the member challenged answers
    answered-kept : (by : Option ℕ) (number id : ℕ) (accept : Bool) (new : Challenge) (reply : Reply)
        → answer_step s.events (challenge_by s.challenges by number) (length s.games) id accept ≡ accepted new reply
        → IsLegalState kinds (with_answer s moment accept new)
    answered-kept by number id false new reply is =
        let was = was-answered s.events s.challenges by number (length s.games) id false new reply is in
        let old_legal = under-each (IsLegalChallenge s) s.challenges was.member number was.old legal.challenges
        was.found in
        challenge-put kinds s moment rises within legal new
        (answered-later kinds s moment by number id false new reply rises is)
        (rw (← was.stands) (restanding s was.old Refused old_legal (λ game is. cc)))
    answered-kept by number id true new reply is =
        let was = was-answered s.events s.challenges by number (length s.games) id true new reply is in
        rw (← was.stands) (accepted-kept was.old was.member number was.found was.waited was.room)

    -- the challenger withdraws
    withdrawn-kept : (id number : ℕ) (new : Challenge) (reply : Reply)
        → withdrawal_step (challenge_under s.challenges id number) ≡ accepted new reply
        → IsLegalState kinds (with_challenge s moment new)
    withdrawn-kept id number new reply is =
        let was = was-withdrawn (challenge_under s.challenges id number) new reply is in
        let old_legal = under-each (IsLegalChallenge s) s.challenges id number was.old legal.challenges was.found in
        challenge-put kinds s moment rises within legal new (withdrawn-later kinds s moment rises id number new
        reply is)
        (rw (← was.stands) (restanding s was.old Withdrawn old_legal (λ game is. cc)))

    -- a member challenges another
    opened-kept : (id number : ℕ) (event other : List ℕ) (first : Bool) (new : Challenge) (reply : Reply)
        → IsSome (place s.members id)
        → opening_step s.members s.events (challenge_under s.challenges id number) id number event other first
        ≡ accepted new reply → IsLegalState kinds (with_challenge s moment new)
    opened-kept id number event other first new reply is_member is =
        let was = was-opened s.events id number (find_id (has_event_name event) s.events)
        (find_id (has_member_name other) s.members) first (challenge_under s.challenges id number) new reply is in
        challenge-put kinds s moment rises within legal new
        (opened-later kinds s moment rises id number event other first new reply is)
        (record {
          number = rw was.has_number was.fits;
          member = rw was.by_caller is_member;
          other = found-some (has_member_name other) s.members new.other was.to_member;
          apart = λ same. was.apart (sym was.by_caller ∙ same);
          event = found-some (has_event_name event) s.events new.event was.in_event;
          accepted = λ game stands. let none : Open ≡ Accepted game = sym was.waits ∙ stands in absurd cc;
        })

    -- two members are seated for a game
    seat-kept : (key event first second : List ℕ) (pairing : Pairing) (reply : Reply)
        → seat_step s.members s.events (game_under s.games key) (length s.games) key event first second
        ≡ accepted pairing reply → IsLegalState kinds (with_new_game s moment key pairing)
    seat-kept key event first second pairing reply is =
        let was = was-seated (find_id (has_event_name event) s.events) (find_id (has_member_name first) s.members)
        (find_id (has_member_name second) s.members) (game_under s.games key) (length s.games) key pairing reply is in
        let (e, at, _) = find_id-found (has_event_name event) s.events pairing.event was.in_event in
        let is_first = found-some (has_member_name first) s.members pairing.first was.has_first in
        let is_second = found-some (has_member_name second) s.members pairing.second was.has_second in
        let kind = kind_at (place s.events pairing.event) in
        game-added kinds s moment rises within legal (seated_as kind (Some key) pairing moment) key
        (rw at
        (any-seated kinds e.game _ (Some key) pairing moment e at refl is_first is_second was.apart was.named
        (omega arith)))
        (seated-rulings DM SM kind (Some key) pairing moment) was.room
        (seated-key DM SM kind (Some key) pairing moment) (fresh-key s.games key was.fresh)

module _ {DP DM DE DT SP SM SE ST : Type 0} (kinds : ClubRules DP DM DE DT SP SM SE ST)
    (are_draughts : AreRules kinds.draughts) (are_shogi : AreRules kinds.shogi) (by_import : KeepsByImport kinds)
    (s : State DM SM) (moment : ℕ) (rises : s.last ≤ moment) (within : moment ≤ last_moment)
    (legal : IsLegalState kinds s) where
  game-kept : (id : ℕ) (who : Caller) (command : GameCommand) (g : Option (AnyGame DM SM)) → place s.games id ≡ g
      → IsLegalState kinds (state_after s (step_game kinds s moment id who command g))
  game-kept id who command None at = legal
  game-kept id who command (Some (draughts game)) at =
      caller-kept kinds kinds.draughts are_draughts Draughts draughts (λ t g is. is) (λ g new is. (new, refl, is))
      (λ g. refl) s moment rises within legal id who command game at
      (in-place (IsLegalIn kinds s) s.games id (draughts game) legal.games at)
  game-kept id who command (Some (shogi game)) at =
      caller-kept kinds kinds.shogi are_shogi Shogi shogi (λ t g is. is) (λ g new is. (new, refl, is)) (λ g. refl) s
      moment rises within legal id who command game at
      (in-place (IsLegalIn kinds s) s.games id (shogi game) legal.games at)

  no-game-kept : (who : Caller) → IsLegalState kinds (state_after s (by_officer who (refused UnknownGame)))
  no-game-kept Officer = legal
  no-game-kept (Member id) = legal

  rule-kept : (id number : ℕ) (ruling : Ruling) (who : Caller) (g : Option (AnyGame DM SM)) → s.has_arbiter ≡ true
      → place s.games id ≡ g
      → IsLegalState kinds (state_after s (by_officer who (step_ruling kinds s moment id number ruling g)))
  rule-kept id number ruling who None has at = no-game-kept who
  rule-kept id number ruling who (Some (draughts game)) has at =
      ruling-kept kinds kinds.draughts are_draughts Draughts draughts (λ t g is. is) (λ g new is. (new, refl, is))
      (λ g. refl) s moment rises within legal id number ruling who game has at
      (in-place (IsLegalIn kinds s) s.games id (draughts game) legal.games at)
  rule-kept id number ruling who (Some (shogi game)) has at =
      ruling-kept kinds kinds.shogi are_shogi Shogi shogi (λ t g is. is) (λ g new is. (new, refl, is)) (λ g. refl) s
      moment rises within legal id number ruling who game has at
      (in-place (IsLegalIn kinds s) s.games id (shogi game) legal.games at)

  swept-any-kept : (g : AnyGame DM SM) → IsLegalIn kinds s g
      → IsLegalIn kinds (with_swept kinds s moment) (swept_any kinds s moment g)
  swept-any-kept (draughts game) of =
      swept-kept kinds kinds.draughts are_draughts Draughts draughts (λ t g is. is) (λ g new is. (new, refl, is))
      (λ g. refl) s moment rises game of
  swept-any-kept (shogi game) of =
      swept-kept kinds kinds.shogi are_shogi Shogi shogi (λ t g is. is) (λ g new is. (new, refl, is)) (λ g. refl) s
      moment rises game of

  swept-any-rulings : (g : AnyGame DM SM) → rulings_of (swept_any kinds s moment g) ≡ rulings_of g
  swept-any-rulings (draughts game) =
      swept-rulings kinds.draughts (terms_at (place s.events game.event)) game moment
  swept-any-rulings (shogi game) = swept-rulings kinds.shogi (terms_at (place s.events game.event)) game moment

  all-swept-kept : IsLegalState kinds (with_swept kinds s moment)
  all-swept-kept =
      games-changed kinds s moment rises within legal (map (swept_any kinds s moment) s.games)
      (swept-later kinds s moment rises) (simp length-map)
      (λ n g at.
      let (old, was, is) = map-got (swept_any kinds s moment) s.games n g at in (
        old,
        was,
        ap (λ x. key_of x) (sym is) ∙ key-later kinds old _ (swept-any-later kinds s moment old),
        (λ none. ap (λ x. rulings_of x) (sym is) ∙ swept-any-rulings old),
        subst (IsLegalIn kinds (with_swept kinds s moment)) is (swept-any-kept old (legal.games n old was)),
      ))

  command-kept : (who : Caller) (command : Command) → IsTrue (takes s command) → IsCallerIn s.members who
      → IsLegalState kinds (state_after s (step_command kinds s moment who command))
  command-kept who (add_member name key) taken is_caller =
      officer-adds (IsLegalState kinds) s (with_members s moment) who (same_member s.members name key)
      (member_tests s.members name key) (s.members ++ record { name = name; key = key; later = [] } ∷ [])
      (member_added (length s.members + 1)) legal (members-added kinds s moment rises within legal name key)
  command-kept who (add_event event) taken is_caller =
      officer-adds (IsLegalState kinds) s (with_events s moment) who (same_event s.events event)
      (event_tests s.events event) (s.events ++ declaring event ∷ []) (event_added (length s.events + 1)) legal
      (events-added kinds s moment rises within legal event)
  command-kept who (seat key event first second) taken is_caller =
      officer-later (IsLegalState kinds) s (with_new_game s moment key) who
      (seat_step s.members s.events (game_under s.games key) (length s.games) key event first second) legal
      (seat-kept kinds s moment rises within legal key event first second)
  command-kept who (import_record given) taken is_caller = by_import s moment rises within legal who given
  command-kept who (on_game id command) taken is_caller = game-kept id who command (place s.games id) refl
  command-kept Officer sweep taken is_caller = all-swept-kept
  command-kept (Member id) sweep taken is_caller = legal
  command-kept Officer (open_challenge number event other first) taken is_caller = legal
  command-kept (Member id) (open_challenge number event other first) taken is_caller =
      outcome-later (IsLegalState kinds) s (with_challenge s moment)
      (opening_step s.members s.events (challenge_under s.challenges id number) id number event other first) legal
      (λ new reply. opened-kept kinds s moment rises within legal id number event other first new reply is_caller)
  command-kept Officer (withdraw_challenge number) taken is_caller = legal
  command-kept (Member id) (withdraw_challenge number) taken is_caller =
      outcome-later (IsLegalState kinds) s (with_challenge s moment)
      (withdrawal_step (challenge_under s.challenges id number)) legal
      (withdrawn-kept kinds s moment rises within legal id number)
  command-kept Officer (answer_challenge challenger number accept) taken is_caller = legal
  command-kept (Member id) (answer_challenge challenger number accept) taken is_caller =
      let by = find_id (has_member_name challenger) s.members in
      outcome-later (IsLegalState kinds) s (with_answer s moment accept)
      (answer_step s.events (challenge_by s.challenges by number) (length s.games) id accept) legal
      (answered-kept kinds s moment rises within legal by number id accept)
  command-kept who (new_key name number key) taken is_caller =
      officer-later (IsLegalState kinds) s (with_members s moment) who (key_step s.members name number key) legal
      (λ new reply is. member-keyed kinds s moment rises within legal name number key new reply taken
      (was-keyed s.members name number key new reply is))
  command-kept who (close_event event) taken is_caller =
      officer-later (IsLegalState kinds) s (with_events s moment) who (close_step s.events event moment) legal
      (λ new reply is. event-closed kinds s moment rises within legal event new reply taken
      (was-closed s.events event moment new reply is))
  command-kept who (rule id number ruling) taken is_caller =
      rule-kept id number ruling who (place s.games id) taken refl

  by-kept : (who : Option Caller) (command : Command) → IsTrue (takes s command)
      → ((c : Caller) → who ≡ Some c → IsCallerIn s.members c)
      → IsLegalState kinds (state_after s (step_by kinds s moment who command))
  by-kept None command taken are = legal
  by-kept (Some who) command taken are = command-kept who command taken (are who refl)

module _ {DP DM DE DT SP SM SE ST : Type 0} (kinds : ClubRules DP DM DE DT SP SM SE ST)
    (are_draughts : AreRules kinds.draughts) (are_shogi : AreRules kinds.shogi) (by_import : KeepsByImport kinds) where
  pub next-legal : (s : State DM SM) (r : Request) → r.moment ≤ last_moment → IsTrue (takes s r.command)
      → IsLegalState kinds s → IsLegalState kinds (next kinds s r)
  next-legal s r within taken legal =
      by-kept kinds are_draughts are_shogi by_import s (max r.moment s.last) (omega arith) (let before = legal.last in
      omega (arith, within, before)) legal (caller_of s.members r.who) r.command taken
      (λ c. is-caller s.members r.who c)
