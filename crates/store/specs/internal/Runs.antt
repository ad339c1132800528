-- The execution of requests in turn, by the specification of the club. No promise of the program rests on these
-- definitions.
use Rattle.std.specs.Prelude.{List}
use Rattle.club_core.specs.State as machine
use Rattle.club_core.specs.State.{Request}
use Rattle.club_rows.specs.Club.{both_games, ClubState}

-- the accepted requests
abbrev pub club_accepted : ClubState → List Request → List Request
club_accepted = machine.accepted_of both_games
