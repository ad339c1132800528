-- The squares that pieces attack, and attacked squares.
use Rattle.std.specs.Prelude.{◌≡◌, ℕ, ◌+◌, ◌-◌, nat_lt, nat_le, ◌&&◌, Option, Some, None, List, [], ◌∷◌, ◌++◌}
use Rattle.std.specs.Prelude.{if◌then◌else◌}
use Rattle.std.specs.Option.{option_map_or}
use Rattle.std.specs.FinMap as map
use Rattle.std.proofs.Common.{zero, suc}
use Rattle.squares.specs.declared.sides.Side.{Side}
use Rattle.squares.specs.declared.sides.Side.TheVariants.{First, Second}
use Rattle.squares.specs.declared.shogi.piece.Role.{Role}
use Rattle.squares.specs.declared.shogi.piece.Role.TheVariants as role
use Rattle.squares.specs.declared.shogi.piece.SPiece.{SPiece}
use Rattle.squares.specs.Sides.{other}
use Rattle.squares.specs.ShogiBoard.{ShogiBoard}
use Rattle.squares.specs.ShogiGeometry.{file_of, rank_of, shogi_number}
use Rattle.shogi_moves.specs.declared.heading.MoveDirection.{MoveDirection}
use Rattle.shogi_moves.specs.declared.heading.MoveDirection.TheVariants.{Forward, ForwardLeft, ForwardRight, Left}
use Rattle.shogi_moves.specs.declared.heading.MoveDirection.TheVariants.{Right}
use Rattle.shogi_moves.specs.declared.heading.MoveDirection.TheVariants.{Back, BackLeft, BackRight, JumpLeft, JumpRight}

-- Files count from 1 at the right to 9 at the left, as First sees the board.
abbrev pub next_file : MoveDirection → ℕ → ℕ
next_file ForwardLeft file = file + 1
next_file Left file = file + 1
next_file BackLeft file = file + 1
next_file JumpLeft file = file + 1
next_file ForwardRight file = file - 1
next_file Right file = file - 1
next_file BackRight file = file - 1
next_file JumpRight file = file - 1
next_file Forward file = file
next_file Back file = file

-- Ranks count from 1 at the top to 9 at the bottom. First's pieces move forward to the top, Second's to the bottom.
abbrev pub ranks_forward : Side → ℕ → ℕ → ℕ
ranks_forward First ranks rank = rank - ranks
ranks_forward Second ranks rank = rank + ranks

-- The rank that a piece of the side reaches from a rank by one step or jump in a direction.
abbrev pub next_rank : Side → MoveDirection → ℕ → ℕ
next_rank side Forward rank = ranks_forward side 1 rank
next_rank side ForwardLeft rank = ranks_forward side 1 rank
next_rank side ForwardRight rank = ranks_forward side 1 rank
next_rank side Left rank = rank
next_rank side Right rank = rank
next_rank side Back rank = ranks_forward (other side) 1 rank
next_rank side BackLeft rank = ranks_forward (other side) 1 rank
next_rank side BackRight rank = ranks_forward (other side) 1 rank
next_rank side JumpLeft rank = ranks_forward side 2 rank
next_rank side JumpRight rank = ranks_forward side 2 rank

-- The square at a file and a rank, if they are on the board.
abbrev pub square_at : ℕ → ℕ → Option ℕ
square_at file rank = if (nat_le 1 file && nat_le file 9) && (nat_le 1 rank && nat_le rank 9) then Some
    (shogi_number file rank) else None

-- The next square for a piece of the side, if there is one; `None` for a number that is no square.
unfoldable pub step : Side → MoveDirection → ℕ → Option ℕ
step side heading n = if nat_lt n 81 then square_at (next_file heading (file_of n))
    (next_rank side heading (rank_of n)) else None

-- At most k squares from n up to the edge of the board, nearest first, without n.
unfoldable pub line : ℕ → Side → MoveDirection → ℕ → List ℕ
line zero side heading n = []
line (suc k) side heading n = option_map_or (λ m. m ∷ line k side heading m) (step side heading n) []

-- A range of k squares forward, backward and sideways, and 0 along other headings.
abbrev pub straight : ℕ → MoveDirection → ℕ
straight k Forward = k
straight k Left = k
straight k Right = k
straight k Back = k
straight k _ = 0

-- A range of k squares along the diagonals, and 0 along other headings.
abbrev pub diagonal : ℕ → MoveDirection → ℕ
diagonal k ForwardLeft = k
diagonal k ForwardRight = k
diagonal k BackLeft = k
diagonal k BackRight = k
diagonal k _ = 0

-- The range of a gold along a heading.
abbrev pub gold : MoveDirection → ℕ
gold ForwardLeft = 1
gold ForwardRight = 1
gold heading = straight 1 heading

-- The range of a silver along a heading.
abbrev pub silver : MoveDirection → ℕ
silver Forward = 1
silver heading = diagonal 1 heading

-- The range of a knight along a heading: one jump.
abbrev pub knight : MoveDirection → ℕ
knight JumpLeft = 1
knight JumpRight = 1
knight _ = 0

-- A range of k squares forward, and 0 along other headings.
abbrev pub ahead : ℕ → MoveDirection → ℕ
ahead k Forward = k
ahead k _ = 0

-- The greatest distance, in squares, that a piece moves along a heading; 8 means any distance.
abbrev pub range : Role → MoveDirection → ℕ
range role.King heading = straight 1 heading + diagonal 1 heading
range role.Rook heading = straight 8 heading
range role.Bishop heading = diagonal 8 heading
range role.Gold heading = gold heading
range role.Silver heading = silver heading
range role.Knight heading = knight heading
range role.Lance heading = ahead 8 heading
range role.Pawn heading = ahead 1 heading
range role.PromotedRook heading = straight 8 heading + diagonal 1 heading
range role.PromotedBishop heading = diagonal 8 heading + straight 1 heading
range role.PromotedSilver heading = gold heading
range role.PromotedKnight heading = gold heading
range role.PromotedLance heading = gold heading
range role.PromotedPawn heading = gold heading

-- All these squares are empty.
abbrev pub AllClear : ShogiBoard → List ℕ → Type 0
AllClear board [] = Unit {0}
AllClear board (n ∷ ns) = (map.get board n ≡ None) × AllClear board ns

-- The piece on x attacks y: along some heading, within its range and over empty squares. The content of y does not
-- matter.
pub record Reach (board : ShogiBoard) (piece : SPiece) (x y : ℕ) : Type 0 where
  pub stands : map.get board x ≡ Some piece
  pub heading : MoveDirection
  pub before : List ℕ
  pub after : List ℕ
  pub along : line (range piece.role heading) piece.side heading x ≡ before ++ y ∷ after
  pub clear : AllClear board before

-- An enemy of the side attacks the square.
pub record Attacked (board : ShogiBoard) (side : Side) (square : ℕ) : Type 0 where
  pub from : ℕ
  pub piece : SPiece
  pub enemy : piece.side ≡ other side
  pub reach : Reach board piece from square

-- A king of the side.
abbrev pub king : Side → SPiece
king side = record { side = side; role = role.King }

-- A king of the side is on an attacked square.
pub record KingAttacked (board : ShogiBoard) (side : Side) : Type 0 where
  pub square : ℕ
  pub stands : map.get board square ≡ Some (king side)
  pub attacked : Attacked board side square
