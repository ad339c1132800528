-- Captures under the FMJD rules of international draughts: jumps, capture routes and legal captures. No promise of the
-- program rests on these definitions.
use Rattle.std.specs.Prelude.{◌≡◌, ◌≤◌, ◌<◌, ℕ, List}
use Rattle.std.specs.Prelude.{length}
use Rattle.std.specs.FinSet as set
use Rattle.squares.specs.declared.draughts.piece.DPiece.{DPiece}
use Rattle.squares.specs.DraughtsBoard.{Position}
use Rattle.squares.specs.DraughtsSets.{Squares}
use Rattle.draughts_moves.specs.Capture.{Cells, Route, Capture}

-- No capture takes more than n pieces, and one takes n unless n is 0.
pub record IsMost (p : Position) (n : ℕ) : Type 0 where
  pub bounds : (x y : ℕ) (ls : List ℕ) (t : Squares) → Capture p x ls t y → set.len t ≤ n
  pub reached : 0 < n → (x : ℕ) × (y : ℕ) × (ls : List ℕ) × (t : Squares) × Capture p x ls t y × (set.len t ≡ n)

-- With `taken` captured so far, n jumps from a square end on `to` and capture `all`.
abbrev pub Reaches : Cells → DPiece → ℕ → Squares → ℕ → Squares → ℕ → Type 0
Reaches b p n taken from all to = (landings : List ℕ) × (length landings ≡ n) × Route b p taken from landings all to
