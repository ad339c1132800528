-- Geometry of the draughts board: square numbers 1 to 50, rows, columns and diagonals. No promise of the program rests
-- on these definitions.
use Rattle.std.specs.Prelude.{◌≡◌, ℕ, ◌+◌, ◌%◌, ◌≤◌, Some, None}
use Rattle.std.specs.Prelude.{[], ◌∷◌}
use Rattle.std.proofs.Common.{zero, suc, refl, ap, ◌∙◌, arith}
use Rattle.squares.specs.declared.draughts.direction.Direction.{Direction}
use Rattle.squares.specs.declared.draughts.direction.Direction.TheVariants.{UpLeft, UpRight, DownLeft, DownRight}
use Rattle.squares.specs.DraughtsGeometry.{row_of, column_of, step, line}

-- The number is that of a square, 1 to 50.
abbrev pub OnBoard : ℕ → Type 0
OnBoard n = (1 ≤ n) × (n ≤ 50)

-- A row and a column of a dark square; the top left square is light.
pub record IsDark (row column : ℕ) : Type 0 where
  pub row_in : row ≤ 9
  pub column_in : column ≤ 9
  pub odd : (row + column) % 2 ≡ 1

-- Square m is k rows and k columns from square n in a direction.
abbrev pub IsMoved : Direction → ℕ → ℕ → ℕ → Type 0
IsMoved UpLeft k n m = (row_of m + k ≡ row_of n) × (column_of m + k ≡ column_of n)
IsMoved UpRight k n m = (row_of m + k ≡ row_of n) × (column_of m ≡ column_of n + k)
IsMoved DownLeft k n m = (row_of m ≡ row_of n + k) × (column_of m + k ≡ column_of n)
IsMoved DownRight k n m = (row_of m ≡ row_of n + k) × (column_of m ≡ column_of n + k)

line_suc : (k : ℕ) (d : Direction) (n m : ℕ) → step d n ≡ Some m → line (suc k) d n ≡ m ∷ line k d m
unfolding line
line_suc k d n m e = rw e refl

pub line-step : (k j : ℕ) (d : Direction) (n m : ℕ) → step d n ≡ Some m → k ≡ j + 1 → line k d n ≡ m ∷ line j d m
line-step zero j d n m e h = absurd (omega arith)
line-step (suc k) j d n m e h = line_suc k d n m e ∙ ap (λ i. m ∷ line i d m) (omega arith)

pub line-edge : (k : ℕ) (d : Direction) (n : ℕ) → step d n ≡ None → line k d n ≡ []
unfolding line
line-edge zero d n e = refl
line-edge (suc k) d n e = rw e refl
