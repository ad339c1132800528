-- A shogi board is a finite map from squares to pieces; a position is a board, two hands and the side to move.
use Rattle.std.specs.Prelude.{ℕ, Option, Some, None, List, [], ◌∷◌}
use Rattle.std.specs.Ordering.{nat_cmp}
use Rattle.std.specs.FinMap as map
use Rattle.std.proofs.Common.{suc}
use Rattle.squares.specs.declared.shogi.piece.SPiece.{SPiece}

-- The pieces of a board, by the indices of their squares.
abbrev pub ShogiBoard : Type 0
ShogiBoard = map.FinMap nat_cmp SPiece

-- The occupied squares from n on, with their pieces.
abbrev pub occupied_cells : ℕ → List (Option SPiece) → List (ℕ × SPiece)
occupied_cells n [] = []
occupied_cells n (None ∷ cells) = occupied_cells (suc n) cells
occupied_cells n (Some p ∷ cells) = (n, p) ∷ occupied_cells (suc n) cells

-- The board of a list of 81 cells, in the order of the squares.
unfoldable pub shogi_board_of : List (Option SPiece) → ShogiBoard
shogi_board_of cells = map.from_entries (occupied_cells 0 cells)
