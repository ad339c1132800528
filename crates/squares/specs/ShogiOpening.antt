-- The starting position of shogi, in SFEN: lnsgkgsnl/1r5b1/ppppppppp/9/9/9/PPPPPPPPP/1B5R1/LNSGKGSNL b -
use Rattle.std.specs.Prelude.{ℕ, ◌-◌, ◌==◌, ◌||◌, nat_le, if◌then◌else◌, Option, Some, None, map}
use Rattle.std.specs.List.{range_with_len}
use Rattle.squares.specs.declared.sides.Side.{Side}
use Rattle.squares.specs.declared.sides.Side.TheVariants.{First, Second}
use Rattle.squares.specs.declared.shogi.piece.Role.{Role}
use Rattle.squares.specs.declared.shogi.piece.Role.TheVariants.{King, Rook, Bishop, Gold, Silver, Knight, Lance, Pawn}
use Rattle.squares.specs.declared.shogi.piece.SPiece.{SPiece}
use Rattle.squares.specs.declared.shogi.hand.Hand.{Hand}
use Rattle.squares.specs.ShogiBoard.{shogi_board_of}
use Rattle.squares.specs.ShogiGeometry.{file_of, rank_of}
use Rattle.squares.specs.ShogiSets.{ShogiPosition}

-- The piece on a file of the back rank: from file 5 outward king, golds, silvers, knights and lances.
abbrev pub back_role : ℕ → Role
back_role file = if file == 5 then King else if file == 4 || file == 6 then Gold else if file == 3 || file ==
    7 then Silver else if file == 2 || file == 8 then Knight else Lance

-- The piece on First's second rank: the rook on file 2 and the bishop on file 8.
abbrev pub second_role : ℕ → Option Role
second_role file = if file == 2 then Some Rook else if file == 8 then Some Bishop else None

-- First's piece on a file, `row` ranks from First's edge.
abbrev pub army_role : ℕ → ℕ → Option Role
army_role file row = if row == 1 then Some (back_role file) else if row == 2 then second_role file else if row ==
    3 then Some Pawn else None

-- The side's piece with a role, if there is one.
abbrev pub piece_of : Side → Option Role → Option SPiece
piece_of side None = None
piece_of side (Some role) = Some (record { side = side; role = role })

-- The piece at a file and a rank: Second's pieces are First's, rotated about the middle of the board.
abbrev pub opening_piece : ℕ → ℕ → Option SPiece
opening_piece file rank = if nat_le rank 3 then piece_of Second (army_role (10 - file) rank) else piece_of First
    (army_role file (10 - rank))

-- The piece on the square with index n in the starting position, if there is one.
abbrev pub opening_cell : ℕ → Option SPiece
opening_cell n = opening_piece (file_of n) (rank_of n)

-- The hand without pieces.
abbrev pub no_hand : Hand
no_hand = record { rook = 0; bishop = 0; gold = 0; silver = 0; knight = 0; lance = 0; pawn = 0 }

-- The starting position.
unfoldable pub opening : ShogiPosition
opening =
    record {
      board = shogi_board_of (map opening_cell (range_with_len 0 81));
      hands =
          record { first = no_hand; second = no_hand };
      turn = First;
    }
