-- The grammar of SFEN texts.
use Rattle.std.specs.Prelude.{ℕ, zero, suc, List, [], ◌∷◌}
use Rattle.std.specs.Prelude.{Option}
use Rattle.std.specs.FinMap as map
use Rattle.squares.specs.declared.shogi.piece.SPiece.{SPiece}
use Rattle.squares.specs.ShogiBoard.{ShogiBoard}
use Rattle.squares.specs.ShogiGeometry.{shogi_number}

-- the contents of the squares of a rank, from this file down to file 1
abbrev pub cells_from : ShogiBoard → ℕ → ℕ → List (Option SPiece)
cells_from board rank zero = []
cells_from board rank (suc file) = map.get board (shogi_number (suc file) rank) ∷ cells_from board rank file

-- the contents of a rank, from file 9 to file 1
abbrev pub rank_cells : ShogiBoard → ℕ → List (Option SPiece)
rank_cells board rank = cells_from board rank 9
