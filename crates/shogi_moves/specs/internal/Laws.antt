-- Properties of the rules as a whole. No promise of the program rests on these definitions.
use Rattle.std.specs.Prelude.{◌≡◌, ◌↔◌, ◌<◌, ℕ, ◌+◌, ◌*◌, length, IsTrue}
use Rattle.std.specs.List.{slice_index}
use Rattle.squares.specs.declared.sides.Side.{Side}
use Rattle.squares.specs.declared.sides.Side.TheVariants.{First, Second}
use Rattle.squares.specs.Sides.{other}
use Rattle.squares.specs.ShogiGeometry.{file_of, rank_of}
use Rattle.shogi_moves.specs.declared.heading.MoveDirection.{MoveDirection}
use Rattle.shogi_moves.specs.declared.heading.MoveDirection.TheVariants.{Forward, ForwardLeft, ForwardRight, Left}
use Rattle.shogi_moves.specs.declared.heading.MoveDirection.TheVariants.{Right}
use Rattle.shogi_moves.specs.declared.heading.MoveDirection.TheVariants.{Back, BackLeft, BackRight, JumpLeft, JumpRight}
use Rattle.squares.specs.declared.shogi.moves.SMove.{SMove}
use Rattle.squares.specs.ShogiSets.{ShogiPosition}
use Rattle.shogi_moves.specs.Reach.{line}
use Rattle.shogi_moves.specs.Check.{IsCheck}
use Rattle.shogi_moves.specs.Rules.{Legal, HasMove, play}
use Rattle.shogi_moves.specs.internal.Computed.{check_of, has_move}

-- The computed check agrees with the rules: it accepts the legal moves, and names the first rule that any other move
-- breaks.
abbrev pub CheckIs : Type 0
CheckIs = (p : ShogiPosition) (m : SMove) → IsCheck p m (check_of p m)

-- The computed `has_move` agrees with the rules.
abbrev pub HasMoveIs : Type 0
HasMoveIs = (p : ShogiPosition) → IsTrue (has_move p) ↔ HasMove p

-- A legal move passes the turn.
abbrev pub TurnPasses : Type 0
TurnPasses = (p : ShogiPosition) (m : SMove) → Legal p m → (play p m).turn ≡ other p.turn

-- The file after k steps along a heading.
abbrev pub FileMoved : MoveDirection → ℕ → ℕ → ℕ → Type 0
FileMoved Forward k from to = to ≡ from
FileMoved ForwardLeft k from to = to ≡ from + k
FileMoved ForwardRight k from to = to + k ≡ from
FileMoved Left k from to = to ≡ from + k
FileMoved Right k from to = to + k ≡ from
FileMoved Back k from to = to ≡ from
FileMoved BackLeft k from to = to ≡ from + k
FileMoved BackRight k from to = to + k ≡ from
FileMoved JumpLeft k from to = to ≡ from + k
FileMoved JumpRight k from to = to + k ≡ from

-- A rank is `ranks` ranks nearer to the enemy than another.
abbrev pub IsAhead : Side → ℕ → ℕ → ℕ → Type 0
IsAhead First ranks from to = to + ranks ≡ from
IsAhead Second ranks from to = to ≡ from + ranks

-- The rank after k steps along a heading.
abbrev pub RankMoved : Side → MoveDirection → ℕ → ℕ → ℕ → Type 0
RankMoved side Forward k from to = IsAhead side k from to
RankMoved side ForwardLeft k from to = IsAhead side k from to
RankMoved side ForwardRight k from to = IsAhead side k from to
RankMoved side Left k from to = to ≡ from
RankMoved side Right k from to = to ≡ from
RankMoved side Back k from to = IsAhead (other side) k from to
RankMoved side BackLeft k from to = IsAhead (other side) k from to
RankMoved side BackRight k from to = IsAhead (other side) k from to
RankMoved side JumpLeft k from to = IsAhead side (2 * k) from to
RankMoved side JumpRight k from to = IsAhead side (2 * k) from to

-- Square m is k steps from n along a heading, for a piece of the side.
abbrev pub IsMoved : Side → MoveDirection → ℕ → ℕ → ℕ → Type 0
IsMoved side heading k n m = FileMoved heading k (file_of n) (file_of m)
    × RankMoved side heading k (rank_of n) (rank_of m)

-- The line from n has m at index k, from 0, exactly if m is the square k + 1 steps from n and k is within the distance.
-- It ends at the edge of the board.
abbrev pub LinesFollowCoordinates : Type 0
LinesFollowCoordinates =
    (distance : ℕ) (side : Side) (heading : MoveDirection) (n k m : ℕ) → n < 81 →
    ((k < length (line distance side heading n)) × (slice_index (line distance side heading n) k ≡ m))
    ↔ ((k < distance) × (m < 81) × IsMoved side heading (k + 1) n m)
