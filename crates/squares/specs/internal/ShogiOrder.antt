-- The order of shogi positions: by side to move, then hands, then board. No promise of the program rests on these
-- definitions.
use Rattle.std.specs.Prelude.{ℕ}
use Rattle.std.specs.Ordering.{nat_cmp, on, then_cmp, flip_args}
use Rattle.std.specs.Cmp.Lexicographic.{slice_cmp}
use Rattle.std.specs.FinMap as map
use Rattle.std.specs.declared.cmp.Ordering.{Ordering}
use Rattle.squares.specs.declared.sides.Side.{Side}
use Rattle.squares.specs.declared.shogi.hand.Hands.{Hands}
use Rattle.squares.specs.declared.shogi.piece.SPiece.{SPiece}
use Rattle.squares.specs.contracts.sides.SideOrd.TheImpl as side_order
use Rattle.squares.specs.contracts.shogi.hand.HandsOrd.TheImpl as hands_order
use Rattle.squares.specs.contracts.shogi.piece.SPieceOrd.TheImpl as piece_order
use Rattle.squares.specs.ShogiBoard.{ShogiBoard}
use Rattle.squares.specs.ShogiSets.{ShogiPosition}

-- The derived orders, by side and role, and by the fields in turn.
abbrev pub side_cmp : Side → Side → Ordering
side_cmp = (side_order.ghosts).cmp

abbrev pub hands_cmp : Hands → Hands → Ordering
hands_cmp = (hands_order.ghosts).cmp

abbrev pub piece_cmp : SPiece → SPiece → Ordering
piece_cmp = (piece_order.ghosts).cmp

-- Of pieces on different squares, the one on the later square is less; on the same square the pieces are compared.
abbrev pub entry_cmp : ℕ × SPiece → ℕ × SPiece → Ordering
entry_cmp = then_cmp (flip_args (on (λ e. e.0) nat_cmp)) (on (λ e. e.1) piece_cmp)

-- Boards are compared at the first square where they differ: an empty cell is less than a piece. So of two entry lists
-- the one with the later next square is less, and a list that ends is less than one that goes on.
unfoldable pub board_cmp : ShogiBoard → ShogiBoard → Ordering
board_cmp = on map.entries (slice_cmp entry_cmp)

unfoldable pub position_cmp : ShogiPosition → ShogiPosition → Ordering
position_cmp = then_cmp (then_cmp (on (λ p. p.turn) side_cmp) (on (λ p. p.hands) hands_cmp))
    (on (λ p. p.board) board_cmp)
