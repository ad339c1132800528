-- The rules of shogi: legal moves, and the position after a move.
use Rattle.std.specs.Prelude.{◌≡◌, ◌<◌, ℕ, ◌+◌, ◌-◌, Bool, true, false, not, ◌&&◌, ◌||◌, nat_le, Option, Some, None}
use Rattle.std.specs.Prelude.{List, [], ◌∷◌, ◌++◌, option_and_then, if◌then◌else◌}
use Rattle.std.specs.Option.{option_map_or}
use Rattle.std.specs.FinMap as map
use Rattle.squares.specs.declared.sides.Side.{Side}
use Rattle.squares.specs.declared.sides.Side.TheVariants.{First, Second}
use Rattle.squares.specs.declared.shogi.piece.Role.{Role}
use Rattle.squares.specs.declared.shogi.piece.Role.TheVariants as role
use Rattle.squares.specs.declared.shogi.piece.HandKind.{HandKind}
use Rattle.squares.specs.declared.shogi.piece.HandKind.TheVariants as in_hand
use Rattle.squares.specs.declared.shogi.piece.SPiece.{SPiece}
use Rattle.squares.specs.declared.shogi.hand.Hands.{Hands}
use Rattle.squares.specs.declared.shogi.moves.SMove.{SMove}
use Rattle.squares.specs.declared.shogi.moves.SMove.TheVariants.{Step, Drop}
use Rattle.squares.specs.Sides.{other, same_side}
use Rattle.squares.specs.ShogiBoard.{ShogiBoard}
use Rattle.squares.specs.ShogiSets.{ShogiPosition, is_king}
use Rattle.squares.specs.ShogiPieces.{kind_of, demoted, promotes_to, hand_kind, on_board}
use Rattle.squares.specs.ShogiHands.{count_of, with_count, hand_of}
use Rattle.squares.specs.ShogiGeometry.{file_of, rank_of}
use Rattle.shogi_moves.specs.declared.checking.Illegal.{Illegal}
use Rattle.shogi_moves.specs.declared.checking.Illegal.TheVariants as illegal
use Rattle.shogi_moves.specs.Reach.{Reach, KingAttacked}

-- The rank as the side counts it from the enemy's edge: 1 is the farthest rank.
abbrev pub far_rank : Side → ℕ → ℕ
far_rank First square = rank_of square
far_rank Second square = 10 - rank_of square

-- Whether a piece with this role has a promoted role.
abbrev pub can_promote : Role → Bool
can_promote role.Rook = true
can_promote role.Bishop = true
can_promote role.Silver = true
can_promote role.Knight = true
can_promote role.Lance = true
can_promote role.Pawn = true
can_promote _ = false

-- A step that starts or ends in the three farthest ranks may promote.
abbrev pub may_promote : SPiece → ℕ → ℕ → Bool
may_promote piece from to = can_promote piece.role &&
    (nat_le (far_rank piece.side from) 3 || nat_le (far_rank piece.side to) 3)

-- The number of farthest ranks on which an unpromoted piece could never move again.
abbrev pub last_ranks : Role → ℕ
last_ranks role.Pawn = 1
last_ranks role.Lance = 1
last_ranks role.Knight = 2
last_ranks _ = 0

-- Whether a piece of the side with this role could never move from the square.
abbrev pub is_stuck : Side → Role → ℕ → Bool
is_stuck side r square = nat_le (far_rank side square) (last_ranks r)

-- A step may end on an empty square, or on an enemy other than the king.
abbrev pub may_land : Side → Option SPiece → Bool
may_land side None = true
may_land side (Some piece) = not (same_side piece.side side) && not (is_king piece.role)

-- A piece of the side to move steps to a square that it attacks, and promotes only where it may.
pub record Goes (p : ShogiPosition) (from to : ℕ) (promote : Bool) : Type 0 where
  pub piece : SPiece
  pub own : piece.side ≡ p.turn
  pub reach : Reach p.board piece from to
  pub lands : may_land p.turn (map.get p.board to) ≡ true
  pub may : promote ≡ true → may_promote piece from to ≡ true

-- The move is a possible step of a piece, or a drop on an empty square.
abbrev pub Movement : ShogiPosition → SMove → Type 0
Movement p (Step from to promote) = Goes p from to promote
Movement p (Drop kind to) = (to < 81) × (map.get p.board to ≡ None)

-- The number of pieces of a kind in the side's hand.
abbrev pub held : Hands → Side → HandKind → ℕ
held hands side kind = count_of kind (hand_of side hands)

-- The hands in which the side holds `count` pieces of a kind.
abbrev pub with_held : Hands → Side → HandKind → ℕ → Hands
with_held hands First kind count = record hands { first = with_count kind count hands.first }
with_held hands Second kind count = record hands { second = with_count kind count hands.second }

-- The role of a dropped piece.
abbrev pub dropped_role : HandKind → Role
dropped_role kind = demoted (on_board kind)

-- A drop of a piece that the hand does not hold.
abbrev pub Lacks : ShogiPosition → SMove → Type 0
Lacks p (Step from to promote) = ⊥
Lacks p (Drop kind to) = held p.hands p.turn kind ≡ 0

-- The piece on `from`, unpromoted, could never move from `to`.
abbrev pub StuckAfter : ShogiPosition → ℕ → ℕ → Type 0
StuckAfter p from to = (piece : SPiece) × (map.get p.board from ≡ Some piece)
    × (is_stuck piece.side piece.role to ≡ true)

-- A step without promotion to a square from which the piece could never move again.
abbrev pub Stays : ShogiPosition → SMove → Type 0
Stays p (Step from to promote) = (promote ≡ false) × StuckAfter p from to
Stays p (Drop kind to) = ⊥

-- A drop on a square from which the piece could never move.
abbrev pub DropsDead : ShogiPosition → SMove → Type 0
DropsDead p (Step from to promote) = ⊥
DropsDead p (Drop kind to) = is_stuck p.turn (dropped_role kind) to ≡ true

-- An unpromoted pawn of the side.
abbrev pub pawn : Side → SPiece
pawn side = record { side = side; role = role.Pawn }

-- The file of the square has an unpromoted pawn of the side.
pub record PawnOnFile (board : ShogiBoard) (side : Side) (square : ℕ) : Type 0 where
  pub there : ℕ
  pub on_board : there < 81
  pub stands : map.get board there ≡ Some (pawn side)
  pub same_file : file_of there ≡ file_of square

-- The move drops a pawn.
abbrev pub DropsPawn : SMove → Type 0
DropsPawn (Step from to promote) = ⊥
DropsPawn (Drop in_hand.Pawn to) = Unit {0}
DropsPawn (Drop kind to) = ⊥

-- The target square of a move.
abbrev pub target : SMove → ℕ
target (Step from to promote) = to
target (Drop kind to) = to

-- A pawn is dropped on a file that already has an unpromoted pawn of the side (nifu).
abbrev pub DropsSecondPawn : ShogiPosition → SMove → Type 0
DropsSecondPawn p m = DropsPawn m × PawnOnFile p.board p.turn (target m)

-- The moved piece after the step.
abbrev pub arrived : SPiece → Bool → SPiece
arrived piece promote =
    record {
      side = piece.side;
      role = if promote then option_map_or (λ r. r) (promotes_to (kind_of piece.role))
          piece.role else piece.role;
    }

-- The board after a move.
abbrev pub board_after : ShogiPosition → SMove → ShogiBoard
board_after p (Step from to promote) = option_map_or
    (λ piece. map.insert (map.remove p.board from) to (arrived piece promote)) (map.get p.board from) p.board
board_after p (Drop kind to) = map.insert p.board to (record { side = p.turn; role = dropped_role kind })

-- The kind of a captured piece in the hand, where it is unpromoted.
abbrev pub taken_kind : Option SPiece → Option HandKind
taken_kind cell = option_and_then (λ piece. hand_kind (kind_of piece.role)) cell

-- The hands after a move: a captured piece comes into the mover's hand, a dropped piece leaves it.
abbrev pub hands_after : ShogiPosition → SMove → Hands
hands_after p (Step from to promote) = option_map_or
    (λ kind. with_held p.hands p.turn kind (held p.hands p.turn kind + 1)) (taken_kind (map.get p.board to)) p.hands
hands_after p (Drop kind to) = with_held p.hands p.turn kind (held p.hands p.turn kind - 1)

-- The position after a move. A step moves the piece, promotes it or not, and puts a captured piece unpromoted into the
-- hand. A drop takes the piece from the hand. The turn passes.
abbrev pub play : ShogiPosition → SMove → ShogiPosition
play p m = record { board = board_after p m; hands = hands_after p m; turn = other p.turn }

-- A pseudo-legal move: legal except for attacks on kings and mate by a dropped pawn.
pub record Pseudo (p : ShogiPosition) (m : SMove) : Type 0 where
  pub moves : Movement p m
  pub holds : Lacks p m → ⊥
  pub promotes : Stays p m → ⊥
  pub alive : DropsDead p m → ⊥
  pub one_pawn : DropsSecondPawn p m → ⊥

-- The moving side's king is not attacked after the move.
abbrev pub Safe : ShogiPosition → SMove → Type 0
Safe p m = KingAttacked (board_after p m) p.turn → ⊥

-- Mate: the king of the side to move is attacked and no pseudo-legal move, not even a pawn drop that mates, leaves it
-- safe.
pub record Mate (p : ShogiPosition) : Type 0 where
  pub attacked : KingAttacked p.board p.turn
  pub no_escape : (m : SMove) → Pseudo p m → Safe p m → ⊥

-- A dropped pawn gives mate (uchifuzume).
abbrev pub MatesByPawn : ShogiPosition → SMove → Type 0
MatesByPawn p m = DropsPawn m × Mate (play p m)

-- A legal move: a pseudo-legal move that leaves its own king safe and gives no mate by a dropped pawn.
pub record Legal (p : ShogiPosition) (m : SMove) : Type 0 where
  pub pseudo : Pseudo p m
  pub safe : Safe p m
  pub no_pawn_mate : MatesByPawn p m → ⊥

-- A position with a legal move.
abbrev pub HasMove : ShogiPosition → Type 0
HasMove p = (m : SMove) × Legal p m

-- The move breaks the rule that the refusal names.
abbrev pub Breaks : ShogiPosition → SMove → Illegal → Type 0
Breaks p m illegal.NoSuchMove = Movement p m → ⊥
Breaks p m illegal.NotInHand = Lacks p m
Breaks p m illegal.MustPromote = Stays p m
Breaks p m illegal.DeadDrop = DropsDead p m
Breaks p m illegal.TwoPawns = DropsSecondPawn p m
Breaks p m illegal.KingAttacked = KingAttacked (board_after p m) p.turn
Breaks p m illegal.DropMate = MatesByPawn p m

-- The rules in the order in which they are checked.
abbrev pub rules_in_order : List Illegal
rules_in_order = illegal.NoSuchMove ∷ illegal.NotInHand ∷ illegal.MustPromote ∷ illegal.DeadDrop ∷ illegal.TwoPawns
    ∷ illegal.KingAttacked ∷ illegal.DropMate ∷ []

-- The move breaks none of these rules.
abbrev pub KeepsAll : ShogiPosition → SMove → List Illegal → Type 0
KeepsAll p m [] = Unit {0}
KeepsAll p m (rule ∷ rules) = (Breaks p m rule → ⊥) × KeepsAll p m rules

-- The move breaks this rule and none before it.
pub record FirstBroken (p : ShogiPosition) (m : SMove) (rule : Illegal) : Type 0 where
  pub before : List Illegal
  pub after : List Illegal
  pub order : rules_in_order ≡ before ++ rule ∷ after
  pub breaks : Breaks p m rule
  pub keeps : KeepsAll p m before
