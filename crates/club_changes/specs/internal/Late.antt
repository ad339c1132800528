-- The side that has lost on time, from the columns of a game's row. No promise of the program rests on these
-- definitions.
use Rattle.std.specs.Prelude.{◌-◌, ◌&&◌, ℕ, not, Option, Some, None, is_some, nat_lt, if◌then◌else◌}
use Rattle.squares.specs.declared.sides.Side.{Side}
use Rattle.club_core.specs.Game.{Clocks, left_of, side_after}
use Rattle.club_rows.specs.internal.Columns.{Columns}

-- the clocks in the columns
abbrev pub clocks_in : Columns → Clocks
clocks_in c = record { left_first = c.left_first; left_second = c.left_second; since = c.since }

-- the side to move, if the game runs and that side has used more seconds than it had left
abbrev pub late_side : Columns → ℕ → Option Side
late_side c moment =
    if not (is_some c.end) && nat_lt (left_of (side_after c.plies) (clocks_in c)) (moment - c.since) then Some
    (side_after c.plies) else None
