-- A shogi position has one king for each side and no more pieces than a set contains. No promise of the program rests
-- on these definitions.
use Rattle.std.specs.Prelude.{ℕ, ◌+◌, ◌≤◌, ◌≡◌, Option, Some, None, Bool, true, false, ◌&&◌, count_by}
use Rattle.std.specs.List.{range_with_len}
use Rattle.std.specs.FinMap as map
use Rattle.squares.specs.declared.sides.Side.{Side}
use Rattle.squares.specs.declared.shogi.piece.HandKind.{HandKind}
use Rattle.squares.specs.declared.shogi.piece.HandKind.TheVariants as in_hand
use Rattle.squares.specs.declared.shogi.piece.Role.{Role}
use Rattle.squares.specs.declared.shogi.piece.Role.TheVariants as role
use Rattle.squares.specs.declared.shogi.piece.SPiece.{SPiece}
use Rattle.squares.specs.declared.shogi.hand.Hands.{Hands}
use Rattle.squares.specs.Sides.{same_side}
use Rattle.squares.specs.ShogiHands.{count_of}
use Rattle.squares.specs.ShogiBoard.{ShogiBoard}
use Rattle.squares.specs.ShogiSets.{is_king}

-- Whether the role is of the kind, promoted or not.
abbrev pub is_of : HandKind → Role → Bool
is_of in_hand.Rook role.Rook = true
is_of in_hand.Rook role.PromotedRook = true
is_of in_hand.Bishop role.Bishop = true
is_of in_hand.Bishop role.PromotedBishop = true
is_of in_hand.Gold role.Gold = true
is_of in_hand.Silver role.Silver = true
is_of in_hand.Silver role.PromotedSilver = true
is_of in_hand.Knight role.Knight = true
is_of in_hand.Knight role.PromotedKnight = true
is_of in_hand.Lance role.Lance = true
is_of in_hand.Lance role.PromotedLance = true
is_of in_hand.Pawn role.Pawn = true
is_of in_hand.Pawn role.PromotedPawn = true
is_of _ _ = false

-- The cell holds a piece of the kind, promoted or not.
abbrev pub holds_kind : HandKind → Option SPiece → Bool
holds_kind kind None = false
holds_kind kind (Some piece) = is_of kind piece.role

-- The cell holds the side's king.
abbrev pub holds_king : Side → Option SPiece → Bool
holds_king side None = false
holds_king side (Some piece) = is_king piece.role && same_side piece.side side

-- The number of squares whose cell passes the test.
unfoldable pub count_on : (Option SPiece → Bool) → ShogiBoard → ℕ
count_on test board = count_by (λ square. test (map.get board square)) (range_with_len 0 81)

-- The number of pieces of a kind in a set.
abbrev pub set_size : HandKind → ℕ
set_size in_hand.Rook = 2
set_size in_hand.Bishop = 2
set_size in_hand.Gold = 4
set_size in_hand.Silver = 4
set_size in_hand.Knight = 4
set_size in_hand.Lance = 4
set_size in_hand.Pawn = 18

-- The number of pieces of a kind on the board and in both hands.
abbrev pub in_play : HandKind → ShogiBoard → Hands → ℕ
in_play kind board hands = count_on (holds_kind kind) board + count_of kind hands.first + count_of kind hands.second

-- Each side has one king.
abbrev pub HasKings : ShogiBoard → Type 0
HasKings board = (side : Side) → count_on (holds_king side) board ≡ 1

-- No kind has more pieces than a set contains.
abbrev pub KeepsSets : ShogiBoard → Hands → Type 0
KeepsSets board hands = (kind : HandKind) → in_play kind board hands ≤ set_size kind

pub record IsShogiPosition (board : ShogiBoard) (hands : Hands) : Type 0 where
  pub kings : HasKings board
  pub sets : KeepsSets board hands
