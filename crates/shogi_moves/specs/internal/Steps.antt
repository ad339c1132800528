-- The conditions of a step that remain once the piece can reach the square. No promise of the program rests on these
-- definitions.
use Rattle.std.specs.Prelude.{ℕ, Bool, true, false, not}
use Rattle.squares.specs.declared.shogi.piece.SPiece.{SPiece}
use Rattle.shogi_moves.specs.Rules.{may_promote, is_stuck}

-- A promoting step may promote, and a step without promotion leaves the piece able to move again.
abbrev pub step_passes : SPiece → ℕ → ℕ → Bool → Bool
step_passes piece from to true = may_promote piece from to
step_passes piece from to false = not (is_stuck piece.side piece.role to)
