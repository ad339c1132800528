-- Geometry of the draughts board: square numbers 1 to 50, rows, columns and diagonals.
use Rattle.std.specs.Prelude.{ℕ, ◌+◌, ◌-◌, ◌*◌, ◌/◌, ◌%◌, ◌==◌, ◌||◌, ◌&&◌, nat_le, Option, Some, None, List}
use Rattle.std.specs.Prelude.{[], ◌∷◌, if◌then◌else◌}
use Rattle.std.specs.Option.{option_map_or}
use Rattle.std.proofs.Common.{zero, suc}
use Rattle.squares.specs.declared.draughts.direction.Direction.{Direction}
use Rattle.squares.specs.declared.draughts.direction.Direction.TheVariants.{UpLeft, UpRight, DownLeft, DownRight}

-- The row of a square, from 0 at the top to 9 at the bottom.
abbrev pub row_of : ℕ → ℕ
row_of n = (n - 1) / 5

-- The column of a square, from 0 at the left to 9 at the right.
abbrev pub column_of : ℕ → ℕ
column_of n = 2 * ((n - 1) % 5) + (1 - row_of n % 2)

-- The number of the dark square at a row and a column.
abbrev pub number_at : ℕ → ℕ → ℕ
number_at row column = 5 * row + column / 2 + 1

-- The next square in a direction from a square on the board, if there is one.
unfoldable pub neighbor : Direction → ℕ → Option ℕ
neighbor UpLeft n = if row_of n == 0 || column_of n == 0 then None else Some
    (number_at (row_of n - 1) (column_of n - 1))
neighbor UpRight n = if row_of n == 0 || column_of n == 9 then None else Some
    (number_at (row_of n - 1) (column_of n + 1))
neighbor DownLeft n = if row_of n == 9 || column_of n == 0 then None else Some
    (number_at (row_of n + 1) (column_of n - 1))
neighbor DownRight n = if row_of n == 9 || column_of n == 9 then None else Some
    (number_at (row_of n + 1) (column_of n + 1))

-- The next square in a direction, if there is one; `None` for a number that is no square.
unfoldable pub step : Direction → ℕ → Option ℕ
step d n = if nat_le 1 n && nat_le n 50 then neighbor d n else None

-- At most k squares from n in a direction, without n.
unfoldable pub line : ℕ → Direction → ℕ → List ℕ
line zero d n = []
line (suc k) d n = option_map_or (λ m. m ∷ line k d m) (step d n) []

-- The squares from n in a direction up to the edge of the board, nearest first, without n.
unfoldable pub ray : Direction → ℕ → List ℕ
ray d n = line 9 d n
