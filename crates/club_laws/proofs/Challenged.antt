-- What an accepted command on a challenge found, and what it leaves of the challenge.
use Rattle.std.proofs.Common.{◌≡◌, ◌≢◌, ℕ, ◌+◌, List, Option, Some, None, Bool, true, false, not, ◌&&◌}
use Rattle.std.proofs.Common.{refl, ap, sym, ◌∙◌}
use Rattle.std.specs.Prelude.{is_some, nat_le, ◌==◌}
use Rattle.std.proofs.lemmas.Bool.{not-true, not-false, eqb-false}
use Rattle.club_core.specs.declared.challenges.Challenge.{Challenge}
use Rattle.club_core.specs.declared.challenges.ChallengeState.{ChallengeState}
use Rattle.club_core.specs.declared.challenges.ChallengeState.TheVariants.{Open, Withdrawn, Refused, Accepted}
use Rattle.club_requests.specs.declared.refusals.Refusal.TheVariants.{UnknownChallenge}
use Rattle.club_requests.specs.Limits.{most_games, is_challenge_number}
use Rattle.club_requests.specs.Outcome.{Reply, challenge_opened, challenge_withdrawn, challenge_refused}
use Rattle.club_requests.specs.Outcome.{challenge_accepted, accepted}
use Rattle.club_core.specs.Events.{Event, is_closed}
use Rattle.club_core.specs.Seats.{are_distinct}
use Rattle.club_core.specs.Challenges.{is_open, standing_as, repeat_of_opening, opening_tests, opening_refusal, opens}
use Rattle.club_core.specs.Challenges.{opening_found, repeat_of_withdrawal, withdrawal_tests, withdrawal_refusal}
use Rattle.club_core.specs.Challenges.{withdrawal_step, repeat_of_answer, answer_tests, answer_refusal, answers}
use Rattle.club_core.specs.Challenges.{answer_step, challenge_under, challenge_by}
use Rattle.club_laws.proofs.Lists.{both-true}
use Rattle.club_core.proofs.Proved.{none-holds, not-some}
use Rattle.club_laws.proofs.Accepts.{unless-accepted, accepted-same, if-accepted}

-- a closed challenge stays as it is, and of an open one all but how it stands
pub record IsLaterChallenge (c new : Challenge) : Type 0 where
  pub asks : new ≡ standing_as c new.standing
  pub closed : is_open c.standing ≡ false → new ≡ c

pub later-challenge-refl : (c : Challenge) → IsLaterChallenge c c
later-challenge-refl c = record { asks = refl; closed = λ is. refl }

pub later-challenge-trans : (a b c : Challenge) → IsLaterChallenge a b → IsLaterChallenge b c → IsLaterChallenge a c
later-challenge-trans a b c first second =
    record {
      asks = second.asks ∙ ap (λ u. standing_as u c.standing) first.asks;
      closed = λ is. let same : b ≡ a = first.closed is in
          second.closed (ap (λ u. is_open u.standing) same ∙ is) ∙ same;
    }

-- an open challenge may be closed
pub closed-later : (c : Challenge) (standing : ChallengeState) → is_open c.standing ≡ true
    → IsLaterChallenge c (standing_as c standing)
closed-later c standing waits = record {
  asks = refl;
  closed = λ is. let both : true ≡ false = sym waits ∙ is in
      absurd cc;
}

-- a challenge that was opened has the event and the member that were found, and a number that was free
pub record WasOpened (caller number : ℕ) (event other : Option ℕ) (first : Bool) (under : Option Challenge)
    (new : Challenge) (reply : Reply) : Type 0 where
  pub in_event : event ≡ Some new.event
  pub to_member : other ≡ Some new.other
  pub by_caller : new.member ≡ caller
  pub has_number : new.number ≡ number
  pub has_sides : new.first ≡ first
  pub waits : new.standing ≡ Open
  pub fresh : under ≡ None
  pub fits : is_challenge_number number ≡ true
  pub apart : caller ≢ new.other
  pub answer : reply ≡ challenge_opened number

opens-opened : (caller number event : ℕ) (other : Option ℕ) (first : Bool) (under : Option Challenge) (new : Challenge)
    (reply : Reply) → is_some under ≡ false → (is_challenge_number number && are_distinct (Some caller) other) ≡ true
    → opens caller number event other first ≡ accepted new reply
    → WasOpened caller number (Some event) other first under new reply
opens-opened caller number event None first under new reply fresh good is = cc
opens-opened caller number event (Some to) first under new reply fresh good is =
    let same =
    accepted-same
    (record { member = caller; number = number; event = event; other = to; first = first; standing = Open }) new
    (challenge_opened number) reply is in
    let both = both-true (is_challenge_number number) (not (caller == to)) good in
    rw (← same.0)
    (record {
      in_event = refl;
      to_member = refl;
      by_caller = refl;
      has_number = refl;
      has_sides = refl;
      waits = refl;
      fresh = not-some under fresh;
      fits = both.0;
      apart = eqb-false caller to (not-true (caller == to) both.1);
      answer = sym same.1;
    })

pub was-opened : (events : List Event) (caller number : ℕ) (event other : Option ℕ) (first : Bool)
    (under : Option Challenge) (new : Challenge) (reply : Reply)
    → opening_found events caller number event other first under ≡ accepted new reply
    → WasOpened caller number event other first under new reply
was-opened events caller number None other first under new reply is = cc
was-opened events caller number (Some event) other first under new reply is =
    let parts = unless-accepted (repeat_of_opening event other first under)
    (opening_refusal caller number other (is_closed events event) under)
    (opens caller number event other first) new reply is in
    let tests = none-holds (opening_tests caller number other (is_closed events event) under) parts.1 in
    opens-opened caller number event other first under new reply tests.0 (not-false _ tests.1.0) parts.2

-- a challenge that was withdrawn was open
pub record WasWithdrawn (under : Option Challenge) (new : Challenge) (reply : Reply) : Type 0 where
  pub old : Challenge
  pub found : under ≡ Some old
  pub waited : is_open old.standing ≡ true
  pub stands : standing_as old Withdrawn ≡ new
  pub answer : challenge_withdrawn old.number ≡ reply

pub was-withdrawn : (under : Option Challenge) (new : Challenge) (reply : Reply)
    → withdrawal_step under ≡ accepted new reply → WasWithdrawn under new reply
was-withdrawn None new reply is = cc
was-withdrawn (Some c) new reply is =
    let parts = unless-accepted (repeat_of_withdrawal c.number c.standing) (withdrawal_refusal c.standing) _ new reply
    is in
    let tests = none-holds (withdrawal_tests c.standing) parts.1 in
    let same = accepted-same (standing_as c Withdrawn) new (challenge_withdrawn c.number) reply parts.2 in
    record { old = c; found = refl; waited = not-false _ tests.0; stands = same.0; answer = same.1 }

-- how a challenge stands after an answer
abbrev pub answered_as : ℕ → Bool → ChallengeState
answered_as games false = Refused
answered_as games true = Accepted (games + 1)

-- a challenge that was answered was open, and to the caller
pub record WasAnswered (cs : List Challenge) (by : Option ℕ) (number games caller : ℕ) (accept : Bool)
    (new : Challenge) (reply : Reply) : Type 0 where
  pub member : ℕ
  pub old : Challenge
  pub by_member : by ≡ Some member
  pub found : challenge_under cs member number ≡ Some old
  pub waited : is_open old.standing ≡ true
  pub to_caller : (old.other == caller) ≡ true
  pub room : (accept && nat_le most_games games) ≡ false
  pub stands : standing_as old (answered_as games accept) ≡ new
  pub answer : repeat_of_answer old.number (answered_as games accept) accept ≡ Some reply

answers-as : (c : Challenge) (games : ℕ) (accept : Bool) (new : Challenge) (reply : Reply)
    → answers c games accept ≡ accepted new reply → (standing_as c (answered_as games accept) ≡ new)
    × (repeat_of_answer c.number (answered_as games accept) accept ≡ Some reply)
answers-as c games false new reply is =
    let same = accepted-same (standing_as c Refused) new (challenge_refused c.number) reply is in
    (same.0, ap Some same.1)
answers-as c games true new reply is =
    let next = games + 1 in
    let same = accepted-same (standing_as c (Accepted next)) new (challenge_accepted c.number next) reply is in
    (same.0, ap Some same.1)

pub was-answered : (events : List Event) (cs : List Challenge) (by : Option ℕ) (number games caller : ℕ)
    (accept : Bool) (new : Challenge) (reply : Reply)
    → answer_step events (challenge_by cs by number) games caller accept ≡ accepted new reply
    → WasAnswered cs by number games caller accept new reply
was-answered events cs None number games caller accept new reply is = cc
was-answered events cs (Some member) number games caller accept new reply is =
    of-found (challenge_under cs member number) refl is
  where
    of-found : (under : Option Challenge) → challenge_under cs member number ≡ under
        → answer_step events under games caller accept ≡ accepted new reply
        → WasAnswered cs (Some member) number games caller accept new reply
    of-found None found step_is = cc
    of-found (Some c) found step_is =
        let asked = if-accepted (c.other == caller) _ UnknownChallenge new reply step_is in
        let parts = unless-accepted (repeat_of_answer c.number c.standing accept)
        (answer_refusal c.standing games (is_closed events c.event) accept) (answers c games accept) new reply
        asked.1 in
        let tests = none-holds (answer_tests c.standing games (is_closed events c.event) accept) parts.1 in
        let left = answers-as c games accept new reply parts.2 in
        record {
          member = member;
          old = c;
          by_member = refl;
          found = found;
          waited = not-false _ tests.0;
          to_caller = asked.0;
          room = tests.1.0;
          stands = left.0;
          answer = left.1;
        }
