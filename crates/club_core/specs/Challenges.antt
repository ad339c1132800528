-- Challenges between members: transitions for opening, withdrawing and answering one.
use Rattle.std.specs.Prelude.{ℕ, ◌+◌, List, [], ◌∷◌, Option, Some, None, Bool, true, false, not, is_some, ◌&&◌, nat_le}
use Rattle.std.specs.Prelude.{◌==◌, if◌then◌else◌}
use Rattle.std.proofs.Math.Bool.{beq}
use Rattle.club_core.specs.declared.challenges.Challenge.{Challenge}
use Rattle.club_core.specs.declared.challenges.ChallengeState.{ChallengeState}
use Rattle.club_core.specs.declared.challenges.ChallengeState.TheVariants.{Open, Withdrawn, Refused, Accepted}
use Rattle.club_requests.specs.declared.refusals.Refusal.{Refusal}
use Rattle.club_requests.specs.declared.refusals.Refusal.TheVariants.{UnknownEvent, UnknownChallenge, Conflict}
use Rattle.club_requests.specs.declared.refusals.Refusal.TheVariants.{BadValue}
use Rattle.club_requests.specs.declared.refusals.Refusal.TheVariants.{Full, EventClosed}
use Rattle.club_requests.specs.Limits.{most_games, is_challenge_number}
use Rattle.club_requests.specs.Outcome.{Reply, challenge_opened, challenge_withdrawn, challenge_refused}
use Rattle.club_requests.specs.Outcome.{challenge_accepted}
use Rattle.club_requests.specs.Outcome.{Outcome, accepted, refused, first_refusal, unless, unless_repeat}
use Rattle.club_core.specs.Members.{Member, find_id}
use Rattle.club_core.specs.Events.{Event, has_event_name, is_closed}
use Rattle.club_core.specs.declared.seats.Pairing.{Pairing}
use Rattle.club_core.specs.Seats.{has_member_name, is_id, are_distinct}

-- the unique key of a challenge: its member and the number that the member chose
abbrev pub key_of_challenge : Challenge → ℕ × ℕ
key_of_challenge c = (c.member, c.number)

-- the challenge has this member and this number
abbrev pub is_under : ℕ → ℕ → Challenge → Bool
is_under member number c = c.member == member && c.number == number

-- the challenge of this member with this number, if it exists
abbrev pub challenge_under : List Challenge → ℕ → ℕ → Option Challenge
challenge_under [] member number = None
challenge_under (c ∷ cs) member number = if is_under member number c then Some c else challenge_under cs member number

-- the challenge of a member that was looked up by name, if both exist
abbrev pub challenge_by : List Challenge → Option ℕ → ℕ → Option Challenge
challenge_by cs None number = None
challenge_by cs (Some member) number = challenge_under cs member number

-- inserts a challenge, or replaces the one with the same member and number
abbrev pub put_challenge : List Challenge → Challenge → List Challenge
put_challenge [] new = new ∷ []
put_challenge (c ∷ cs) new = if is_under new.member new.number c then new ∷ cs else c ∷ put_challenge cs new

-- the challenge is neither withdrawn nor answered
abbrev pub is_open : ChallengeState → Bool
is_open Open = true
is_open Withdrawn = false
is_open Refused = false
is_open (Accepted game) = false

-- the challenge in this state
abbrev pub standing_as : Challenge → ChallengeState → Challenge
standing_as c standing = record c { standing = standing }

-- the event and the players of the proposed game
abbrev pub pairing_for : Challenge → Pairing
pairing_for c =
    if c.first
    then record { event = c.event; first = c.member; second = c.other }
    else record { event = c.event; first = c.other; second = c.member }

-- the challenge has this event, this opponent and these sides
abbrev pub asks_same : ℕ → Option ℕ → Bool → Challenge → Bool
asks_same event other first c = event == c.event && is_id other c.other && beq first c.first

-- the stored challenge has the same content, whatever its state is now
abbrev pub repeat_of_opening : ℕ → Option ℕ → Bool → Option Challenge → Option Reply
repeat_of_opening event other first None = None
repeat_of_opening event other first (Some c) =
    if asks_same event other first c then Some (challenge_opened c.number) else None

module _ (caller number : ℕ) (other : Option ℕ) (closed : Bool) (under : Option Challenge) where
  -- the refusals of a new challenge with their tests, in the order in which they apply
  abbrev pub opening_tests : List (Bool × Refusal)
  opening_tests =
      (is_some under, Conflict)
      ∷ (not (is_challenge_number number && are_distinct (Some caller) other), BadValue)
      ∷ (closed, EventClosed)
      ∷ []

  -- the first refusal of a new challenge that applies, if any
  abbrev pub opening_refusal : Option Refusal
  opening_refusal = first_refusal opening_tests

-- stores a new open challenge, if the opponent was found
abbrev pub opens : ℕ → ℕ → ℕ → Option ℕ → Bool → Outcome Challenge
opens caller number event None first = refused BadValue
opens caller number event (Some other) first =
    accepted
    (record { member = caller; number = number; event = event; other = other; first = first; standing = Open })
    (challenge_opened number)

-- the transition after the event and the opponent are looked up by name; `under` is the stored challenge with this
-- number
abbrev pub opening_found : List Event → ℕ → ℕ → Option ℕ → Option ℕ → Bool → Option Challenge → Outcome Challenge
opening_found events caller number None other first under = refused UnknownEvent
opening_found events caller number (Some event) other first under =
    unless_repeat (repeat_of_opening event other first under)
    (unless (opening_refusal caller number other (is_closed events event) under)
    (opens caller number event other first))

-- a member challenges another to a game of an event; `first` is true if the challenger moves first
abbrev pub opening_step : List Member → List Event → Option Challenge →
    ℕ → ℕ → List ℕ → List ℕ → Bool → Outcome Challenge
opening_step members events under caller number event other first =
    opening_found events caller number
    (find_id (has_event_name event) events)
    (find_id (has_member_name other) members)
    first under

-- the challenge is already withdrawn
abbrev pub repeat_of_withdrawal : ℕ → ChallengeState → Option Reply
repeat_of_withdrawal number Open = None
repeat_of_withdrawal number Withdrawn = Some (challenge_withdrawn number)
repeat_of_withdrawal number Refused = None
repeat_of_withdrawal number (Accepted game) = None

-- the refusals of a withdrawal with their tests, in the order in which they apply
abbrev pub withdrawal_tests : ChallengeState → List (Bool × Refusal)
withdrawal_tests standing = (not (is_open standing), Conflict) ∷ []

-- the first refusal of a withdrawal that applies, if any
abbrev pub withdrawal_refusal : ChallengeState → Option Refusal
withdrawal_refusal standing = first_refusal (withdrawal_tests standing)

-- the challenger withdraws an open challenge
abbrev pub withdrawal_step : Option Challenge → Outcome Challenge
withdrawal_step None = refused UnknownChallenge
withdrawal_step (Some c) =
    unless_repeat (repeat_of_withdrawal c.number c.standing)
    (unless (withdrawal_refusal c.standing)
    (accepted (standing_as c Withdrawn) (challenge_withdrawn c.number)))

-- the challenge already has this answer
abbrev pub repeat_of_answer : ℕ → ChallengeState → Bool → Option Reply
repeat_of_answer number Open accept = None
repeat_of_answer number Withdrawn accept = None
repeat_of_answer number Refused true = None
repeat_of_answer number Refused false = Some (challenge_refused number)
repeat_of_answer number (Accepted game) true = Some (challenge_accepted number game)
repeat_of_answer number (Accepted game) false = None

module _ (standing : ChallengeState) (games : ℕ) (closed accept : Bool) where
  -- the refusals of an answer to a challenge with their tests, in the order in which they apply
  abbrev pub answer_tests : List (Bool × Refusal)
  answer_tests =
      (not (is_open standing), Conflict)
      ∷ (accept && nat_le most_games games, Full)
      ∷ (accept && closed, EventClosed)
      ∷ []

  -- the first refusal of an answer to a challenge that applies, if any
  abbrev pub answer_refusal : Option Refusal
  answer_refusal = first_refusal answer_tests

-- an open challenge is refused, or accepted and starts the next game
abbrev pub answers : Challenge → ℕ → Bool → Outcome Challenge
answers c games false = accepted (standing_as c Refused) (challenge_refused c.number)
answers c games true = accepted (standing_as c (Accepted (games + 1))) (challenge_accepted c.number (games + 1))

-- the challenged member answers the challenge that was looked up; `games` is the number of games
abbrev pub answer_step : List Event → Option Challenge → ℕ → ℕ → Bool → Outcome Challenge
answer_step events None games caller accept = refused UnknownChallenge
answer_step events (Some c) games caller accept =
    if c.other == caller
    then
    unless_repeat (repeat_of_answer c.number c.standing accept)
    (unless (answer_refusal c.standing games (is_closed events c.event) accept)
    (answers c games accept))
    else refused UnknownChallenge
