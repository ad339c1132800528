-- Square numbers and diagonals agree with rows and columns. No promise of the program rests on these definitions.
use Rattle.std.specs.Prelude.{◌≡◌, ◌↔◌, ◌+◌, ◌<◌, ℕ, length, slice_index}
use Rattle.squares.specs.declared.draughts.direction.Direction.{Direction}
use Rattle.squares.specs.DraughtsGeometry.{row_of, column_of, number_at, ray}
use Rattle.squares.specs.internal.DraughtsGeometry.{OnBoard, IsDark, IsMoved}

-- A square number gives a dark square, which gives the number back.
abbrev pub NumbersGivePlaces : Type 0
NumbersGivePlaces = (n : ℕ) → OnBoard n → IsDark (row_of n) (column_of n) × (number_at (row_of n) (column_of n) ≡ n)

-- A dark square gives a square number, which gives the row and column back.
abbrev pub PlacesGiveNumbers : Type 0
PlacesGiveNumbers =
    (row column : ℕ) → IsDark row column → OnBoard (number_at row column) × (row_of (number_at row column) ≡ row)
    × (column_of (number_at row column) ≡ column)

-- The diagonal from n has m at index k, from 0, exactly if m is the square k + 1 rows and columns from n. It ends at
-- the edge of the board.
abbrev pub LinesFollowCoordinates : Type 0
LinesFollowCoordinates =
    (toward : Direction) (n k m : ℕ) → OnBoard n
    → ((k < length (ray toward n)) × (slice_index (ray toward n) k ≡ m)) ↔ (OnBoard m × IsMoved toward (k + 1) n m)
