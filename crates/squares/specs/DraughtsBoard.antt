-- A draughts board is a finite map from squares to pieces; a position is a board and the side to move.
use Rattle.std.specs.Prelude.{ℕ, Option, Some, None, List, [], ◌∷◌}
use Rattle.std.specs.Ordering.{nat_cmp}
use Rattle.std.specs.FinMap as map
use Rattle.std.proofs.Common.{suc}
use Rattle.squares.specs.declared.draughts.piece.DPiece.{DPiece}
use Rattle.squares.specs.declared.sides.Side.{Side}

-- The pieces of a board, by the numbers of their squares.
abbrev pub Board : Type 0
Board = map.FinMap nat_cmp DPiece

-- A position: the board and the side to move.
pub record Position : Type 0 where
  pub board : Board
  pub turn : Side

-- The occupied squares from n on, with their pieces.
abbrev pub occupied : ℕ → List (Option DPiece) → List (ℕ × DPiece)
occupied n [] = []
occupied n (None ∷ cells) = occupied (suc n) cells
occupied n (Some p ∷ cells) = (n, p) ∷ occupied (suc n) cells

-- The board of a list of 50 cells, in the order of the squares.
unfoldable pub board_of : List (Option DPiece) → Board
board_of cells = map.from_entries (occupied 1 cells)
