-- The starting position of draughts: Second's men on squares 1 to 20, First's men on 31 to 50, First to move.
use Rattle.std.specs.Prelude.{ℕ, false, nat_le, if◌then◌else◌, Option, Some, None, map}
use Rattle.std.specs.List.{range_with_len}
use Rattle.squares.specs.declared.draughts.piece.DPiece.{DPiece}
use Rattle.squares.specs.declared.sides.Side.{Side}
use Rattle.squares.specs.declared.sides.Side.TheVariants.{First, Second}
use Rattle.squares.specs.DraughtsBoard.{Position, board_of}

-- A man of the side.
abbrev pub man : Side → DPiece
man side = record { side = side; king = false }

-- The piece on square n in the starting position.
abbrev pub opening_piece : ℕ → Option DPiece
opening_piece n = if nat_le n 20 then Some (man Second) else if nat_le n 30 then None else Some (man First)

-- The starting position.
unfoldable pub opening : Position
opening = record { board = board_of (map opening_piece (range_with_len 1 50)); turn = First }
