-- The execution of requests in turn, by the specification of the club.
use Rattle.std.specs.Prelude.{◌≤◌, List, IsTrue}
use Rattle.club_requests.specs.Limits.{last_moment}
use Rattle.club_requests.specs.Outcome.{Outcome}
use Rattle.club_core.specs.State as machine
use Rattle.club_core.specs.State.{Request, takes}
use Rattle.club_rows.specs.Club.{both_games, ClubState, IsClub}
use Rattle.club_changes.specs.Steps.{club_next}

-- the state after the requests
abbrev pub club_fold : ClubState → List Request → ClubState
club_fold = machine.fold both_games

-- the outcome of each request
abbrev pub club_outcomes : ClubState → List Request → List (Outcome ClubState)
club_outcomes = machine.outcomes both_games

-- a request with a timestamp in range, whose command the club takes, keeps a legal state legal
abbrev pub KeepsClub : Type 0
KeepsClub =
    (s : ClubState) (r : Request) → r.moment ≤ last_moment → IsTrue (takes s r.command) → IsClub s
    → IsClub (club_next s r)
