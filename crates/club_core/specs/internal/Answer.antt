-- Maps the values of the code to those of the specification: answers, members, events and requests. No promise of the
-- program rests on these definitions.
use Rattle.std.specs.Prelude.{List, map, string_bytes}
use Rattle.club_core.specs.declared.challenges.Challenge.{Challenge}
use Rattle.club_core.specs.declared.challenges.ChallengeDecision.{ChallengeDecision}
use Rattle.club_core.specs.declared.challenges.ChallengeDecision.TheVariants as challenge
use Rattle.club_core.specs.declared.members.Member as given_member
use Rattle.club_core.specs.declared.events.Event as given_event
use Rattle.club_core.specs.declared.seats.SeatDecision as given_seating
use Rattle.club_core.specs.declared.seats.SeatDecision.TheVariants as seating
use Rattle.club_requests.specs.Outcome.{game_seated}
use Rattle.club_requests.specs.Outcome.{Outcome, accepted, repeated, refused}
use Rattle.club_core.specs.Members.{Member}
use Rattle.club_core.specs.Events.{Event}
use Rattle.club_core.specs.declared.seats.Pairing.{Pairing}
use Rattle.club_core.specs.Answer.{reply_of}

abbrev pub member_of : given_member.Member → Member
member_of m =
    record {
      name = string_bytes m.name;
      key = string_bytes m.key;
      later = map (λ k. string_bytes k) m.later.items;
    }

abbrev pub members_of : List given_member.Member → List Member
members_of ms = map member_of ms

abbrev pub event_of : given_event.Event → Event
event_of e =
    record {
      name = string_bytes e.name;
      game = e.game;
      terms = record { budget = e.budget; increment = e.increment; declares = e.declares };
      closed = e.closed;
    }

abbrev pub events_of : List given_event.Event → List Event
events_of es = map event_of es

-- the outcome of a `seat` command
abbrev pub seating_of : given_seating.SeatDecision → Outcome Pairing
seating_of (seating.Starts k) = accepted k.pairing (game_seated k.game)
seating_of (seating.Repeated id) = repeated (game_seated id)
seating_of (seating.Refused refusal) = refused refusal

-- the outcome of a command on a challenge, with the new challenge
abbrev pub challenge_outcome_of : ChallengeDecision → Outcome Challenge
challenge_outcome_of (challenge.Accepted new a) = accepted new (reply_of a)
challenge_outcome_of (challenge.Repeated a) = repeated (reply_of a)
challenge_outcome_of (challenge.Refused refusal) = refused refusal
