-- Maps the values of the code to those of the specification: answers, members, events and requests.
use Rattle.std.specs.Prelude.{true, None, string_bytes}
use Rattle.club_requests.specs.declared.answers.MoveAnswer.{MoveAnswer}
use Rattle.club_requests.specs.declared.answers.Answer.{Answer}
use Rattle.club_requests.specs.declared.answers.Answer.TheVariants as answer
use Rattle.club_requests.specs.declared.answers.Outcome as given_outcome
use Rattle.club_requests.specs.declared.answers.Outcome.TheVariants as given
use Rattle.club_core.specs.declared.challenges.Challenge.{Challenge}
use Rattle.club_requests.specs.declared.requests.AddEvent as given_command
use Rattle.club_requests.specs.declared.requests.Command as given_commands
use Rattle.club_requests.specs.declared.requests.Command.TheVariants as given_is
use Rattle.club_requests.specs.declared.requests.GameCommand as given_game
use Rattle.club_requests.specs.declared.requests.GameCommand.TheVariants as given_does
use Rattle.club_requests.specs.declared.requests.Request as given_request
use Rattle.club_requests.specs.declared.requests.Import as given_import
use Rattle.club_requests.specs.declared.requests.Who as given_who
use Rattle.club_requests.specs.declared.requests.Who.TheVariants as given_who_is
use Rattle.club_requests.specs.Outcome.{Reply, MoveReply, member_added, event_added, game_seated, moved, draw_offered}
use Rattle.club_requests.specs.Outcome.{game_ended, games_swept, challenge_opened, challenge_withdrawn}
use Rattle.club_requests.specs.Outcome.{challenge_refused}
use Rattle.club_requests.specs.Outcome.{challenge_accepted, key_given, event_closed, ruling_given, Outcome, accepted}
use Rattle.club_requests.specs.Outcome.{repeated, refused, map_outcome}
use Rattle.club_core.specs.Members.{Member}
use Rattle.club_core.specs.Events.{Event}
use Rattle.club_core.specs.Imports.{Import}
use Rattle.club_core.specs.Step.{GameCommand, move, offer_draw, accept_draw, resign, claim_time, declare}
use Rattle.club_core.specs.State.{Command, add_member, add_event, seat, import_record, on_game, sweep, open_challenge}
use Rattle.club_core.specs.State.{withdraw_challenge, answer_challenge, new_key, close_event, rule, Who, officer}
use Rattle.club_core.specs.State.{key_holder, Request}

-- the reply to a move, with its texts as bytes
abbrev pub move_reply_of : MoveAnswer → MoveReply
move_reply_of m =
    record { ply = m.ply; text = string_bytes m.text; left = m.left; position = string_bytes m.position; end = m.end }

-- the reply of an answer, with its texts as bytes
abbrev pub reply_of : Answer → Reply
reply_of (answer.Member id) = member_added id
reply_of (answer.Event id) = event_added id
reply_of (answer.Game id) = game_seated id
reply_of (answer.Moved m) = moved (move_reply_of m)
reply_of (answer.Offered ply) = draw_offered ply
reply_of (answer.Ended end result) = game_ended end result
reply_of (answer.Swept count) = games_swept count
reply_of (answer.ChallengeOpened number) = challenge_opened number
reply_of (answer.ChallengeWithdrawn number) = challenge_withdrawn number
reply_of (answer.ChallengeRefused number) = challenge_refused number
reply_of (answer.ChallengeAccepted number game) = challenge_accepted number game
reply_of (answer.KeyGiven number) = key_given number
reply_of answer.EventClosed = event_closed
reply_of (answer.RulingGiven number) = ruling_given number

-- the outcome of a command, without the new state
abbrev pub outcome_of : given_outcome.Outcome → Outcome (Unit {0})
outcome_of (given.Accepted a) = accepted tt (reply_of a)
outcome_of (given.Repeated a) = repeated (reply_of a)
outcome_of (given.Refused refusal) = refused refusal

-- the outcome of a transition, without the new state
abbrev pub answered : {S : Type 0} → Outcome S → Outcome (Unit {0})
answered o = map_outcome (λ _. tt) o

-- the event that a command adds
abbrev pub added_event : given_command.AddEvent → Event
added_event e =
    record {
      name = string_bytes e.name;
      game = e.game;
      terms = record { budget = e.budget; increment = e.increment; declares = true };
      closed = None;
    }

-- the caller of a command, with the key as bytes
abbrev pub who_of : given_who.Who → Who
who_of given_who_is.Officer = officer
who_of (given_who_is.Key key) = key_holder (string_bytes key)

-- a command on a game, with its text as bytes
abbrev pub game_command_of : given_game.GameCommand → GameCommand
game_command_of (given_does.Move ply text) = move ply (string_bytes text)
game_command_of (given_does.OfferDraw ply) = offer_draw ply
game_command_of (given_does.AcceptDraw ply) = accept_draw ply
game_command_of given_does.Resign = resign
game_command_of given_does.ClaimTime = claim_time
game_command_of (given_does.Declare ply) = declare ply

-- an import, with its texts as bytes
abbrev pub import_of : given_import.Import → Import
import_of c =
    record {
      key = string_bytes c.key;
      event = string_bytes c.event;
      first = string_bytes c.first;
      second = string_bytes c.second;
      part = c.part;
      format = c.format;
      text = c.text.items;
    }

-- a command, with its texts as bytes
abbrev pub command_of : given_commands.Command → Command
command_of (given_is.AddMember c) = add_member (string_bytes c.name) (string_bytes c.key)
command_of (given_is.AddEvent c) = add_event (added_event c)
command_of (given_is.Seat c) = seat (string_bytes c.key) (string_bytes c.event) (string_bytes c.first)
    (string_bytes c.second)
command_of (given_is.Import c) = import_record (import_of c)
command_of (given_is.OnGame c) = on_game c.game (game_command_of c.command)
command_of given_is.Sweep = sweep
command_of (given_is.Challenge c) = open_challenge c.number (string_bytes c.event) (string_bytes c.other) c.first
command_of (given_is.Withdraw c) = withdraw_challenge c.number
command_of (given_is.Answer c) = answer_challenge (string_bytes c.challenger) c.number c.accept
command_of (given_is.NewKey c) = new_key (string_bytes c.name) c.number (string_bytes c.key)
command_of (given_is.CloseEvent c) = close_event (string_bytes c.event)
command_of (given_is.Rule c) = rule c.game c.number c.ruling

-- a request, with its texts as bytes
abbrev pub request_of : given_request.Request → Request
request_of r = record { who = who_of r.who; command = command_of r.command; moment = r.moment }
