-- A club of the store as the HTTP application sees it.
use Rattle.std.specs.Prelude.{if◌then◌else◌}
use Rattle.store_tables.specs.Over.{Neighbours}
use Rattle.club_core.specs.Answer.{answered}
use Rattle.club_core.specs.State.{Request, takes}
use Rattle.club_rows.specs.Club.{ClubState}
use Rattle.club_answers.specs.AnswerTexts.{IsShown}
use Rattle.club_reads.specs.Keys.{member_by_key}
use Rattle.club_changes.specs.Steps.{club_step, club_next}
use Rattle.http_desk.specs.Served.{Club}

-- a state of the club, and the foreign tables in its file
pub record DeskState : Type 0 where
  pub them : Neighbours
  pub state : ClubState

-- the state of the club, with these foreign tables in its file
abbrev pub beside_them : Neighbours → ClubState → DeskState
beside_them them s = record { them = them; state = s }

-- The state after a request: foreign tables stay as they are. A command that the club cannot record changes nothing.
abbrev pub next_of : DeskState → Request → DeskState
next_of s request = if takes s.state request.command then beside_them s.them (club_next s.state request) else s

-- the club of the store as the HTTP application queries and changes it
abbrev pub served : Club DeskState
served =
    record {
      member_by_key = λ s. member_by_key s.state;
      IsShown = λ s. IsShown s.state;
      step = λ s request. (next_of s request, answered (club_step s.state request));
    }
