-- The hash of a draughts position. No promise of the program rests on these definitions.
use Rattle.std.specs.Prelude.{Option, ◌++◌, map}
use Rattle.std.specs.List.{range_with_len}
use Rattle.std.specs.FinMap as finite_map
use Rattle.std.specs.Hash.{HashWrites, slice}
use Rattle.squares.specs.declared.draughts.piece.DPiece.{DPiece}
use Rattle.squares.specs.declared.sides.Side.{Side}
use Rattle.squares.specs.DraughtsBoard.{Position}

-- The hash covers the squares in order, then the side to move.
unfoldable pub hash_writes : (Option DPiece → HashWrites) → (Side → HashWrites) → Position → HashWrites
hash_writes of_cell of_turn p = slice of_cell (map (λ n. finite_map.get p.board n) (range_with_len 1 50))
    ++ of_turn p.turn
