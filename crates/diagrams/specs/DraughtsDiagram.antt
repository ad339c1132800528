-- The diagram of a draughts position: a line for each row of the board, from the top.
use Rattle.std.specs.Prelude.{ℕ, zero, suc, ◌+◌, ◌*◌, ◌%◌, ◌==◌, List, [], ◌∷◌, ◌++◌, Bool, true, false, Option}
use Rattle.std.specs.Prelude.{Some, None, if◌then◌else◌}
use Rattle.std.specs.FinMap as map
use Rattle.squares.specs.declared.sides.Side.{Side}
use Rattle.squares.specs.declared.sides.Side.TheVariants.{First, Second}
use Rattle.squares.specs.declared.draughts.piece.DPiece.{DPiece}
use Rattle.squares.specs.DraughtsBoard.{Board}
use Rattle.squares.specs.DraughtsGeometry.{number_at}
use Rattle.diagrams.specs.Numbers.{number_text}

-- `w` and `W` for a man and a king of First (White), `b` and `B` for those of Second.
abbrev pub piece_letter : Side → Bool → ℕ
piece_letter First false = 119
piece_letter First true = 87
piece_letter Second false = 98
piece_letter Second true = 66

-- A full stop for an empty square.
abbrev pub cell_sign : Option DPiece → ℕ
cell_sign None = 46
cell_sign (Some piece) = piece_letter piece.side piece.king

-- The character of the square at a row and a column, both from 0. The top left square is light; light squares are
-- blank.
abbrev pub sign_at : Board → ℕ → ℕ → ℕ
sign_at board row column =
    if (row + column) % 2 == 0 then 32 else cell_sign (map.get board (number_at row column))

-- Consecutive squares of a row from a column on, each right-aligned in three columns.
abbrev pub cells_text : Board → ℕ → ℕ → ℕ → List ℕ
cells_text board row column zero = []
cells_text board row column (suc more) = 32 ∷ 32 ∷ sign_at board row column ∷ cells_text board row (suc column) more

-- A row between the numbers of its first and its last dark square, with the line end.
unfoldable pub row_text : Board → ℕ → List ℕ
row_text board row =
    number_text (5 * row + 1)
    ++ (32 ∷ (cells_text board row 0 10 ++ (32 ∷ (number_text (5 * row + 5) ++ (10 ∷ [])))))

-- Consecutive rows from a row on.
abbrev pub rows_text : Board → ℕ → ℕ → List ℕ
rows_text board row zero = []
rows_text board row (suc more) = row_text board row ++ rows_text board (suc row) more

-- All ten rows.
unfoldable pub diagram_text : Board → List ℕ
diagram_text board = rows_text board 0 10
