-- The entering-king declaration by the 27-point rule.
use Rattle.std.specs.Prelude.{◌≡◌, ◌≤◌, ◌<◌, ℕ, ◌+◌, ◌*◌, ◌&&◌, not, nat_le, Bool, true, false, Option, Some, None}
use Rattle.std.specs.Prelude.{count_by, sum_by, if◌then◌else◌}
use Rattle.std.specs.FinMap as map
use Rattle.squares.specs.declared.sides.Side.{Side}
use Rattle.squares.specs.declared.sides.Side.TheVariants.{First, Second}
use Rattle.squares.specs.declared.shogi.piece.Kind.{Kind}
use Rattle.squares.specs.declared.shogi.piece.Kind.TheVariants as kind
use Rattle.squares.specs.declared.shogi.piece.SPiece.{SPiece}
use Rattle.squares.specs.declared.shogi.hand.Hand.{Hand}
use Rattle.squares.specs.Sides.{same_side}
use Rattle.squares.specs.ShogiBoard.{ShogiBoard}
use Rattle.squares.specs.ShogiSets.{ShogiPosition, is_king}
use Rattle.squares.specs.ShogiPieces.{kind_of, on_board}
use Rattle.squares.specs.ShogiHands.{count_of, hand_of}
use Rattle.shogi_moves.specs.Reach.{KingAttacked, king}
use Rattle.shogi_moves.specs.Search.{all_squares}
use Rattle.shogi_moves.specs.Computed.{all_kinds}
use Rattle.shogi_moves.specs.Rules.{far_rank}

-- The enemy's camp is the three farthest ranks.
abbrev pub in_camp : Side → ℕ → Bool
in_camp side square = nat_le (far_rank side square) 3

-- The points of a piece, promoted or not: five for a rook or a bishop, one for any other piece.
abbrev pub worth : Kind → ℕ
worth kind.Rook = 5
worth kind.Bishop = 5
worth _ = 1

-- The cell holds a piece of the side, other than its king, in the enemy's camp.
abbrev pub has_entered : Side → ℕ → Option SPiece → Bool
has_entered side square None = false
has_entered side square (Some piece) =
    (same_side piece.side side && not (is_king piece.role)) && in_camp side square

-- The points of a square.
abbrev pub cell_points : Side → ℕ → Option SPiece → ℕ
cell_points side square None = 0
cell_points side square (Some piece) =
    if has_entered side square (Some piece) then worth (kind_of piece.role) else 0

-- The number of the side's pieces in the enemy's camp, without the king.
unfoldable pub entered : ShogiBoard → Side → ℕ
entered board side = count_by (λ n. has_entered side n (map.get board n)) all_squares

-- The points of these pieces.
unfoldable pub camp_points : ShogiBoard → Side → ℕ
camp_points board side = sum_by (λ n. cell_points side n (map.get board n)) all_squares

-- The points of a hand.
abbrev pub hand_points : Hand → ℕ
hand_points hand = sum_by (λ k. worth (on_board k) * count_of k hand) all_kinds

-- The points of the side to move, in the camp and in hand.
abbrev pub points : ShogiPosition → ℕ
points p = camp_points p.board p.turn + hand_points (hand_of p.turn p.hands)

-- The number of points that a side needs for a declaration.
abbrev pub points_needed : Side → ℕ
points_needed First = 28
points_needed Second = 27

-- The number of pieces, without the king, that a declaration needs in the enemy's camp.
abbrev pub pieces_needed : ℕ
pieces_needed = 10

-- The side's king is in the enemy's camp.
pub record KingEntered (board : ShogiBoard) (side : Side) : Type 0 where
  pub square : ℕ
  pub on_board : square < 81
  pub stands : map.get board square ≡ Some (king side)
  pub entered : in_camp side square ≡ true

-- The side to move may declare a win. Its king is in the enemy's camp and not in check, with at least ten other own
-- pieces. These and the hand have the points that its side needs.
pub record CanDeclare (p : ShogiPosition) : Type 0 where
  pub king : KingEntered p.board p.turn
  pub safe : KingAttacked p.board p.turn → ⊥
  pub pieces : pieces_needed ≤ entered p.board p.turn
  pub enough : points_needed p.turn ≤ points p
