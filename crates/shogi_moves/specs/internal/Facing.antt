-- Attacks on a square, found by looking outward from it. No promise of the program rests on these definitions.
use Rattle.std.specs.Prelude.{ℕ, ◌+◌, Bool, false, not, ◌&&◌, nat_lt, Option, Some, None, List, [], ◌∷◌}
use Rattle.std.specs.List.{list_any}
use Rattle.std.specs.FinMap as map
use Rattle.squares.specs.declared.sides.Side.{Side}
use Rattle.squares.specs.declared.shogi.piece.SPiece.{SPiece}
use Rattle.squares.specs.Sides.{same_side}
use Rattle.squares.specs.ShogiBoard.{ShogiBoard}
use Rattle.shogi_moves.specs.declared.heading.MoveDirection.{MoveDirection}
use Rattle.shogi_moves.specs.declared.heading.MoveDirection.TheVariants.{Forward, ForwardLeft, ForwardRight, Left}
use Rattle.shogi_moves.specs.declared.heading.MoveDirection.TheVariants.{Right}
use Rattle.shogi_moves.specs.declared.heading.MoveDirection.TheVariants.{Back, BackLeft, BackRight, JumpLeft, JumpRight}
use Rattle.shogi_moves.specs.Reach.{line, range}
use Rattle.shogi_moves.specs.internal.Search.{all_headings}

-- The greatest distance at which a piece can attack along a heading.
abbrev pub farthest : MoveDirection → ℕ
farthest JumpLeft = 1
farthest JumpRight = 1
farthest _ = 8

-- The heading by which an enemy approaches along a heading: forward stays forward, and left becomes right.
abbrev pub facing : MoveDirection → MoveDirection
facing Forward = Forward
facing ForwardLeft = ForwardRight
facing ForwardRight = ForwardLeft
facing Left = Right
facing Right = Left
facing Back = Back
facing BackLeft = BackRight
facing BackRight = BackLeft
facing JumpLeft = JumpRight
facing JumpRight = JumpLeft

-- Whether the piece, with `distance` empty squares before it, is an enemy whose range reaches the square; without a
-- piece, the rest decides.
abbrev pub faced_by : Side → MoveDirection → ℕ → Bool → Option SPiece → Bool
faced_by side heading distance rest None = rest
faced_by side heading distance rest (Some piece) =
    not (same_side piece.side side) && nat_lt distance (range piece.role (facing heading))

-- Whether the first piece on the squares is an enemy whose range reaches the square.
abbrev pub faced : ShogiBoard → Side → MoveDirection → ℕ → List ℕ → Bool
faced board side heading distance [] = false
faced board side heading distance (n ∷ ns) =
    faced_by side heading distance (faced board side heading (distance + 1) ns) (map.get board n)

unfoldable pub faced_along : ShogiBoard → Side → ℕ → MoveDirection → Bool
faced_along board side square heading = faced board side heading 0 (line (farthest heading) side heading square)

unfoldable pub seen : ShogiBoard → Side → ℕ → Bool
seen board side square = list_any (faced_along board side square) all_headings
