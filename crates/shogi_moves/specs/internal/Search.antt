-- The computed attacks of pieces. No promise of the program rests on these definitions.
use Rattle.std.specs.Prelude.{ℕ, Bool, false, ◌&&◌, ◌||◌, ◌==◌, is_none, List, [], ◌∷◌}
use Rattle.std.specs.List.{list_any}
use Rattle.std.specs.Option.{option_map_or}
use Rattle.std.specs.FinMap as map
use Rattle.squares.specs.declared.sides.Side.{Side}
use Rattle.squares.specs.declared.shogi.piece.SPiece.{SPiece}
use Rattle.squares.specs.Sides.{other, same_side}
use Rattle.squares.specs.ShogiBoard.{ShogiBoard}
use Rattle.squares.specs.internal.ShogiSets.{holds_king}
use Rattle.shogi_moves.specs.declared.heading.MoveDirection.{MoveDirection}
use Rattle.shogi_moves.specs.declared.heading.MoveDirection.TheVariants.{Forward, ForwardLeft, ForwardRight, Left}
use Rattle.shogi_moves.specs.declared.heading.MoveDirection.TheVariants.{Right}
use Rattle.shogi_moves.specs.declared.heading.MoveDirection.TheVariants.{Back, BackLeft, BackRight, JumpLeft, JumpRight}
use Rattle.shogi_moves.specs.Reach.{line, range}
use Rattle.shogi_moves.specs.Search.{all_squares}

-- The directions in which pieces move, with the two jumps of a knight.
abbrev pub all_headings : List MoveDirection
all_headings = Forward ∷ ForwardLeft ∷ ForwardRight ∷ Left ∷ Right ∷ Back ∷ BackLeft ∷ BackRight ∷ JumpLeft ∷ JumpRight
    ∷ []

-- Whether a walk along the squares reaches y before a piece blocks it.
abbrev pub comes_to : ShogiBoard → ℕ → List ℕ → Bool
comes_to board y [] = false
comes_to board y (n ∷ ns) = n == y || (is_none (map.get board n) && comes_to board y ns)

-- Whether the piece on x attacks y.
unfoldable pub piece_reaches : ShogiBoard → SPiece → ℕ → ℕ → Bool
piece_reaches board piece x y = list_any
    (λ heading. comes_to board y (line (range piece.role heading) piece.side heading x)) all_headings

-- Whether a piece of the side on x attacks y.
unfoldable pub side_reaches : ShogiBoard → Side → ℕ → ℕ → Bool
side_reaches board side y x = option_map_or (λ piece. same_side piece.side side && piece_reaches board piece x y)
    (map.get board x) false

-- Whether an enemy of the side attacks the square.
unfoldable pub attacked : ShogiBoard → Side → ℕ → Bool
attacked board side square = list_any (side_reaches board (other side) square) all_squares

-- Whether the side's king is on the square and is attacked there.
unfoldable pub king_attacked_at : ShogiBoard → Side → ℕ → Bool
king_attacked_at board side square = holds_king side (map.get board square) && attacked board side square

-- Whether the side's king is in check.
unfoldable pub king_attacked : ShogiBoard → Side → Bool
king_attacked board side = list_any (king_attacked_at board side) all_squares
