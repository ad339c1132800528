-- The clock of a game as JSON.
use Rattle.std.specs.Prelude.{ℕ, ◌-◌, List, Bool, false, Option, Some, None, codes, nat_le, if◌then◌else◌}
use Rattle.serde_json.specs.Data.{Data, object, member, no_members}
use Rattle.serde_json.specs.Written.{compact_text}
use Rattle.squares.specs.declared.sides.Side.{Side}
use Rattle.squares.specs.declared.sides.Side.TheVariants.{First, Second}
use Rattle.squares.specs.Sides.{same_side}
use Rattle.club_requests.specs.Limits.{last_moment}
use Rattle.club_core.specs.Game.{left_of}
use Rattle.club_core.specs.Members.{Member}
use Rattle.club_lists.specs.Lines.{player_name}
use Rattle.club_lists.specs.GameSummary.{GameSummary, deadline, is_over}
use Rattle.club_lists.specs.Values.{number_data, number_or_null, seconds_pair, text_or_null}

-- last second in which a move is in time; none if beyond the last timestamp
abbrev pub deadline_within : GameSummary → Option ℕ
deadline_within told = if nat_le (deadline told) last_moment then Some (deadline told) else None

-- a value that only a running game has
abbrev pub while_running : {A : Type 0} → GameSummary → Option A → Option A
while_running told value = if is_over told then None else value

-- the player to move in a running game
abbrev pub running_turn : List Member → GameSummary → Option (List ℕ)
running_turn members told = while_running told (Some (player_name members told.turn told))

-- the game is running and the side is to move
abbrev pub is_running_side : Side → GameSummary → Bool
is_running_side side told = if is_over told then false else same_side side told.turn

-- seconds that a side has left at this timestamp: the clock of the side to move runs, but not below zero
abbrev pub left_now : ℕ → Side → GameSummary → ℕ
left_now moment side told =
    if is_running_side side told then left_of side told.clocks - (moment - told.clocks.since)
    else left_of side told.clocks

-- the object of a clock: `left` has the seconds after each side's last move, `now` those at this timestamp
unfoldable pub clock_data : List Member → ℕ → GameSummary → Data
clock_data members moment told = object
    (member (codes "deadline") (number_or_null (while_running told (deadline_within told)))
    (member (codes "game") (number_data told.id)
    (member (codes "left") (seconds_pair told.clocks.left_first told.clocks.left_second)
    (member (codes "moment") (number_data moment)
    (member (codes "now") (seconds_pair (left_now moment First told) (left_now moment Second told))
    (member (codes "since") (number_data told.clocks.since)
    (member (codes "turn") (text_or_null (running_turn members told)) no_members)))))))

-- its text
abbrev pub clock_text : List Member → ℕ → GameSummary → List ℕ
clock_text members moment told = compact_text (clock_data members moment told)
