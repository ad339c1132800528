-- A draughts board is a finite map from squares to pieces; a position is a board and the side to move. No promise of
-- the program rests on these definitions.
use Rattle.std.specs.Prelude.{Bool, false, Option, Some, None}
use Rattle.squares.specs.declared.draughts.piece.DPiece.{DPiece}
use Rattle.squares.specs.declared.sides.Side.{Side}
use Rattle.squares.specs.Sides.{same_side}

-- Whether the cell holds a piece of the side.
abbrev pub is_of : Side → Option DPiece → Bool
is_of side None = false
is_of side (Some q) = same_side q.side side
