-- The club as a state machine, and the effect of a command on its tables.
use Rattle.std.specs.Prelude.{ℕ}
pub use Rattle.store_tables.specs.Changes.{HaveSame}
use Rattle.club_requests.specs.declared.requests.Who as given_who
use Rattle.club_requests.specs.declared.requests.Command as given_command
use Rattle.club_requests.specs.Outcome.{Outcome}
use Rattle.club_core.specs.Answer.{who_of, command_of}
use Rattle.club_core.specs.State.{Request, step}
use Rattle.club_core.specs.State.{next}
pub use Rattle.club_rows.specs.internal.LegalRows.{IsRecordOf}
use Rattle.club_rows.specs.Club.{both_games, ClubState}

-- ---- the state machine

-- the request of the state machine for this caller, command and timestamp of the code
abbrev pub request : given_who.Who → given_command.Command → ℕ → Request
request who command moment = record { who = who_of who; command = command_of command; moment = moment }

-- the outcome of a request in a state of the club, with the next state if it is accepted
abbrev pub club_step : ClubState → Request → Outcome ClubState
club_step = step both_games

-- the state of the club after a request
abbrev pub club_next : ClubState → Request → ClubState
club_next = next both_games
