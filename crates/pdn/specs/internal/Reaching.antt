-- Reachability of a square by jumps that land on given squares. No promise of the program rests on these definitions.
use Rattle.std.specs.Prelude.{◌≡◌, ◌⊎◌, ℕ, List, [], ◌∷◌, ◌++◌}
use Rattle.std.specs.FinSet as set
use Rattle.squares.specs.declared.draughts.piece.DPiece.{DPiece}
use Rattle.squares.specs.DraughtsSets.{Squares}
use Rattle.draughts_moves.specs.Capture.{Cells, Route}
use Rattle.pdn.specs.Subsequence.{IsSubsequence}
use Rattle.pdn.specs.internal.Subsequence.{unmatched_after}

-- one or more jumps lead from one square to another, and the piece lands on the squares of `middle` in order before it
abbrev pub GoesTo : Cells → DPiece → Squares → ℕ → List ℕ → ℕ → Type 0
GoesTo b q taken from middle to = (before : List ℕ) × (all : Squares) × Route b q taken from (before ++ to ∷ []) all to
    × IsSubsequence middle before

-- after one jump the piece is at its destination, or further jumps lead there
abbrev pub StepsTo : Cells → DPiece → Squares → ℕ × ℕ → List ℕ → ℕ → Type 0
StepsTo b q taken j middle to = ((middle ≡ []) × (j.1 ≡ to))
    ⊎ GoesTo b q (set.insert taken j.0) j.1 (unmatched_after middle j.1) to
