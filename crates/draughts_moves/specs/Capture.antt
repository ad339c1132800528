-- Captures under the FMJD rules of international draughts: jumps, capture routes and legal captures.
use Rattle.std.specs.Prelude.{◌≡◌, ◌≤◌, ◌<◌, ℕ, Bool, true, false, not, ◌==◌, if◌then◌else◌, Option, Some, None, List}
use Rattle.std.specs.Prelude.{[], ◌∷◌, ◌++◌}
use Rattle.std.specs.FinSet as set
use Rattle.std.specs.FinMap as map
use Rattle.squares.specs.declared.draughts.direction.Direction.{Direction}
use Rattle.squares.specs.declared.draughts.piece.DPiece.{DPiece}
use Rattle.squares.specs.Sides.{same_side}
use Rattle.squares.specs.DraughtsBoard.{Board, Position}
use Rattle.squares.specs.DraughtsSets.{Squares}
use Rattle.squares.specs.DraughtsGeometry.{ray}

-- The content of each square.
abbrev pub Cells : Type 0
Cells = ℕ → Option DPiece

-- The board without the piece on x.
abbrev pub without : Board → ℕ → Cells
without board x n = if n == x then None else map.get board n

-- Whether the cell holds an enemy of the piece.
abbrev pub is_enemy : DPiece → Option DPiece → Bool
is_enemy p None = false
is_enemy p (Some q) = not (same_side p.side q.side)

-- All these squares are empty.
abbrev pub AllClear : Cells → List ℕ → Type 0
AllClear b [] = Unit {0}
AllClear b (n ∷ ns) = (b n ≡ None) × AllClear b ns

-- Along a line of squares the piece jumps over an enemy that it has not captured, to an empty square behind it. The
-- squares before the enemy and between enemy and landing are empty. For a man the enemy and the landing are the first
-- two squares.
pub record JumpAlong (b : Cells) (p : DPiece) (taken : Squares) (line : List ℕ) (over to : ℕ) : Type 0 where
  pub before : List ℕ
  pub between : List ℕ
  pub after : List ℕ
  pub along : line ≡ before ++ over ∷ (between ++ to ∷ after)
  pub enemy : is_enemy p (b over) ≡ true
  pub fresh : set.contains taken over ≡ false
  pub clear_before : AllClear b before
  pub clear_between : AllClear b between
  pub lands : b to ≡ None
  pub man : p.king ≡ false → (before ≡ []) × (between ≡ [])

-- A jump from a square, in one of the four directions.
abbrev pub Jump : Cells → DPiece → Squares → ℕ → ℕ → ℕ → Type 0
Jump b p taken from over to = (d : Direction) × JumpAlong b p taken (ray d from) over to

-- A capture route: jumps from a square, with `taken` captured so far, land on the listed squares, end on `to` and
-- capture `all`. Captured pieces stay on the board until the end; the starting square of the piece counts as empty.
abbrev pub Route : Cells → DPiece → Squares → ℕ → List ℕ → Squares → ℕ → Type 0
Route b p taken from [] all to = (taken ≡ all) × (from ≡ to)
Route b p taken from (l ∷ landings) all to = (over : ℕ) × Jump b p taken from over l
    × Route b p (set.insert taken over) l landings all to

-- A capture route of a piece of the side to move.
pub record Capture (p : Position) (from : ℕ) (landings : List ℕ) (all : Squares) (to : ℕ) : Type 0 where
  pub piece : DPiece
  pub stands : map.get p.board from ≡ Some piece
  pub own : piece.side ≡ p.turn
  pub route : Route (without p.board from) piece set.empty from landings all to

-- A capture that takes at least one piece, while no capture takes more.
pub record LegalCapture (p : Position) (from to : ℕ) (all : Squares) : Type 0 where
  pub landings : List ℕ
  pub capture : Capture p from landings all to
  pub takes : 0 < set.len all
  pub most : (x y : ℕ) (ls : List ℕ) (t : Squares) → Capture p x ls t y → set.len t ≤ set.len all

-- A first jump of a piece of the side to move.
pub record FirstJump (p : Position) (from over to : ℕ) : Type 0 where
  pub piece : DPiece
  pub stands : map.get p.board from ≡ Some piece
  pub own : piece.side ≡ p.turn
  pub jump : Jump (without p.board from) piece set.empty from over to

-- A piece of the side to move has a first jump.
abbrev pub HasCapture : Position → Type 0
HasCapture p = (from : ℕ) × (over : ℕ) × (to : ℕ) × FirstJump p from over to
