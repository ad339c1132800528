-- A request that is repeated after the club accepted it.
use Rattle.std.specs.Prelude.{◌≡◌, ℕ, List, Some, is_some, true}
use Rattle.club_requests.specs.Outcome.{Reply, accepted}
use Rattle.club_core.specs.State.{Command, caller_of, key_holder}
use Rattle.club_rows.specs.Club.{ClubState, IsClub}
use Rattle.club_rows.specs.Tables.{version_of}
use Rattle.club_laws.specs.Laws.{StillRepeats}
use Rattle.club_changes.specs.Steps.{club_step}
use Rattle.store.specs.Histories.{HistoryStep, Place, HistoryLeadsTo}
use Rattle.store_tables.specs.Over.{Neighbours}
use Rattle.http_head.specs.Request as head
use Rattle.http_desk.specs.Desk.{serve, serve_command}
use Rattle.club_reads.specs.Keys.{member_by_key}
use Rattle.club_session.specs.Served.{DeskState, beside_them, served}

-- the command that the request sends: by the holder of the key, about the game or challenge with this number
pub record AsksFor (request : head.HttpRequest) (key : List ℕ) (number : ℕ) (command : Command) : Type 0 where
  pub is : (s : DeskState) (moment : ℕ) → is_some (member_by_key s.state key) ≡ true
      → serve served s moment request ≡ serve_command served s moment key number (Some command)

-- the state, in the schema version of its club
abbrev pub stands_at : ClubState → Place
stands_at s = record { version = version_of s; state = s }

-- The repetition changes nothing and gets the same answer, after any sessions and schema migrations, at any
-- timestamp, beside any foreign tables. It has the key that the member has then, which may be another one. For an offer
-- of a draw this holds until the next move.
abbrev pub AnswersAlike : Type 0
AnswersAlike =
    (one other : Neighbours) (before after later : ClubState) (moment again : ℕ) (request repetition : head.HttpRequest)
    (key present : List ℕ) (number : ℕ) (command : Command) (reply : Reply) (between : List HistoryStep) →
    IsClub before → AsksFor request key number command → AsksFor repetition present number command →
    club_step before (record { who = key_holder key; command = command; moment = moment }) ≡ accepted after reply →
    HistoryLeadsTo (stands_at after) between (stands_at later) →
    caller_of later.members (key_holder present) ≡ caller_of before.members (key_holder key) →
    StillRepeats later command →
    serve served (beside_them other later) again repetition
    ≡ (beside_them other later, (serve served (beside_them one before) moment request).1)
