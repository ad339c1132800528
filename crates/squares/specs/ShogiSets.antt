-- A shogi position has one king for each side and no more pieces than a set contains.
use Rattle.std.specs.Prelude.{Bool, true, false}
use Rattle.squares.specs.declared.sides.Side.{Side}
use Rattle.squares.specs.declared.shogi.piece.Role.{Role}
use Rattle.squares.specs.declared.shogi.piece.Role.TheVariants as role
use Rattle.squares.specs.declared.shogi.hand.Hands.{Hands}
use Rattle.squares.specs.ShogiBoard.{ShogiBoard}

-- A position: the board, the hands of both sides, and the side to move.
pub record ShogiPosition : Type 0 where
  pub board : ShogiBoard
  pub hands : Hands
  pub turn : Side

-- Whether the role is that of a king.
abbrev pub is_king : Role → Bool
is_king role.King = true
is_king _ = false
