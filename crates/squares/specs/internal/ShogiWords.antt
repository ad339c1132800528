-- A board as bitboards, one for each side and one for each role. No promise of the program rests on these definitions.
use Rattle.std.proofs.Common.{◌≡◌, ℕ, Bool, false, Option, Some, None, List, length, get_or}
use Rattle.std.specs.FinMap as map
use Rattle.std.specs.FinSet as set
use Rattle.masks.specs.Words.{Numbers}
use Rattle.squares.specs.declared.sides.Side.{Side}
use Rattle.squares.specs.declared.sides.Side.TheVariants.{First, Second}
use Rattle.squares.specs.declared.shogi.piece.Role.{Role}
use Rattle.squares.specs.declared.shogi.piece.Role.TheVariants as role
use Rattle.squares.specs.declared.shogi.piece.SPiece.{SPiece}
use Rattle.squares.specs.Sides.{same_side}
use Rattle.squares.specs.ShogiBoard.{ShogiBoard, shogi_board_of}
use Rattle.squares.specs.ShogiSamePosition.{same_role, same_shogi_piece}

-- The cell holds a piece of the side.
abbrev pub is_side : Side → Option SPiece → Bool
is_side side None = false
is_side side (Some piece) = same_side piece.side side

-- The cell holds a piece of the role.
abbrev pub is_role : Role → Option SPiece → Bool
is_role r None = false
is_role r (Some piece) = same_role piece.role r

-- The cell holds exactly this piece.
abbrev pub holds : SPiece → Option SPiece → Bool
holds piece None = false
holds piece (Some other) = same_shogi_piece other piece

-- The indices of the bitboards of sides and of roles.
abbrev pub side_place : Side → ℕ
side_place First = 0
side_place Second = 1

abbrev pub role_place : Role → ℕ
role_place role.King = 0
role_place role.Rook = 1
role_place role.Bishop = 2
role_place role.Gold = 3
role_place role.Silver = 4
role_place role.Knight = 5
role_place role.Lance = 6
role_place role.Pawn = 7
role_place role.PromotedRook = 8
role_place role.PromotedBishop = 9
role_place role.PromotedSilver = 10
role_place role.PromotedKnight = 11
role_place role.PromotedLance = 12
role_place role.PromotedPawn = 13

-- The bitboard at an index.
abbrev pub squares_at : List Numbers → ℕ → Numbers
squares_at words place = get_or words place set.empty

-- Each bitboard holds exactly the squares whose cell has the property of its index.
abbrev pub Tracks : {A : Type 0} → (A → ℕ) → (A → Option SPiece → Bool) → List Numbers → ShogiBoard → Type 0
Tracks {A} place of words board = (a : A) (q : ℕ) → set.contains (squares_at words (place a)) q ≡ of a (map.get board q)

-- Eighty-one cells with the bitboards of sides and roles.
pub record KeepsBoard (cells : List (Option SPiece)) (sides roles : List Numbers) : Type 0 where
  pub has_cells : length cells ≡ 81
  pub has_sides : length sides ≡ 2
  pub has_roles : length roles ≡ 14
  pub by_side : Tracks side_place is_side sides (shogi_board_of cells)
  pub by_role : Tracks role_place is_role roles (shogi_board_of cells)
