-- The challenges of a club as lines of text.
use Rattle.std.specs.Prelude.{ℕ, Bool, true, false, List, [], ◌∷◌, ◌++◌, Option, Some, None, codes, decimal}
use Rattle.club_core.specs.declared.challenges.Challenge.{Challenge}
use Rattle.club_core.specs.Events.{Event}
use Rattle.club_core.specs.Members.{Member}
use Rattle.club_core.specs.State.{place}
use Rattle.club_lists.specs.Listing.{event_name}
use Rattle.club_lists.specs.Shows.{from_name, started, state_text, to_name}

-- the side that the challenger plays
abbrev pub challenger_side : Bool → List ℕ
challenger_side true = codes "first"
challenger_side false = codes "second"

-- id of the game that a challenge started, or `=` if there is none
abbrev pub started_text : Option ℕ → List ℕ
started_text None = codes "="
started_text (Some game) = decimal game

-- `SIDE STATE GAME`
abbrev pub challenge_tail : Challenge → List ℕ
challenge_tail c =
    challenger_side c.first ++ (codes " " ++ (state_text c.standing ++ (codes " " ++ (started_text (started c.standing)
    ++ codes "\n"))))

module _ (members : List Member) (events : List Event) where
  -- `challenge MEMBER NUMBER EVENT OTHER`, followed by the tail
  abbrev pub challenge_line : Challenge → List ℕ
  challenge_line c =
      codes "challenge " ++ (from_name members c ++ (codes " " ++ (decimal c.number ++ (codes " "
      ++ (event_name (place events c.event) ++ (codes " " ++ (to_name members c ++ (codes " "
      ++ challenge_tail c))))))))

  -- the lines of these challenges
  abbrev pub challenge_lines : List Challenge → List ℕ
  challenge_lines [] = []
  challenge_lines (c ∷ challenges) = challenge_line c ++ challenge_lines challenges
