-- The written FEN of a position: the side to move, then White's and Black's pieces in ascending order of squares, with
-- `K` before a king.
use Rattle.std.specs.Prelude.{ℕ, List, ◌∷◌, ◌++◌, Option, Some, None, codes, if◌then◌else◌}
use Rattle.std.specs.List.{filter_map, join_with_byte, range_with_len}
use Rattle.std.specs.FinMap as map
use Rattle.squares.specs.declared.sides.Side.{Side}
use Rattle.squares.specs.declared.sides.Side.TheVariants.{First, Second}
use Rattle.squares.specs.declared.draughts.piece.DPiece.{DPiece}
use Rattle.squares.specs.Sides.{same_side}
use Rattle.squares.specs.DraughtsBoard.{Board, Position}
use Rattle.pdn.specs.SquareText.{square_text}

-- the letter of a side, W for First (White) and B for Second (Black)
abbrev pub side_letter : Side → List ℕ
side_letter First = codes "W"
side_letter Second = codes "B"

-- a piece and its square
abbrev pub piece_text : ℕ → DPiece → List ℕ
piece_text square piece = if piece.king then 75 ∷ square_text square else square_text square

-- a piece and its square, if it belongs to the side
abbrev pub piece_of : Side → ℕ → Option DPiece → Option (List ℕ)
piece_of side square None = None
piece_of side square (Some piece) = if same_side piece.side side then Some (piece_text square piece) else None

-- the pieces of a side on these squares, separated by commas
unfoldable pub pieces_on : Side → Board → List ℕ → List ℕ
pieces_on side board squares = join_with_byte 44
    (filter_map (λ square. piece_of side square (map.get board square)) squares)

-- the squares of the board in ascending order
unfoldable pub all_squares : List ℕ
all_squares = range_with_len 1 50

-- the pieces of a side, separated by commas
abbrev pub pieces_text : Side → Board → List ℕ
pieces_text side board = pieces_on side board all_squares

-- the FEN text of a position
unfoldable pub fen_text : Position → List ℕ
fen_text p =
    side_letter p.turn ++ codes ":W" ++ pieces_text First p.board ++ codes ":B" ++ pieces_text Second p.board
