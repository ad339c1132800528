-- Legal moves under the FMJD rules of international draughts, and the position after a move.
use Rattle.std.specs.Prelude.{◌≡◌, ◌⊎◌, ◌<◌, ℕ, Bool, true, false, not, ◌||◌, ◌==◌, Option, Some, None, List, [], ◌∷◌}
use Rattle.std.specs.Prelude.{◌++◌}
use Rattle.std.specs.FinSet as set
use Rattle.std.specs.FinMap as map
use Rattle.squares.specs.declared.draughts.direction.Direction.{Direction}
use Rattle.squares.specs.declared.draughts.direction.Direction.TheVariants.{UpLeft, UpRight, DownLeft, DownRight}
use Rattle.squares.specs.declared.draughts.piece.DPiece.{DPiece}
use Rattle.squares.specs.declared.draughts.moves.DMove.{DMove}
use Rattle.squares.specs.declared.sides.Side.{Side}
use Rattle.squares.specs.declared.sides.Side.TheVariants.{First, Second}
use Rattle.squares.specs.Sides.{other}
use Rattle.squares.specs.DraughtsBoard.{Position}
use Rattle.squares.specs.DraughtsGeometry.{ray, row_of}
use Rattle.draughts_moves.specs.Capture.{AllClear, Capture, LegalCapture, HasCapture}

-- First moves up the board, Second down.
abbrev pub is_forward : Side → Direction → Bool
is_forward First UpLeft = true
is_forward First UpRight = true
is_forward First d = false
is_forward Second DownLeft = true
is_forward Second DownRight = true
is_forward Second d = false

-- A quiet move: a piece of the side to move goes along a diagonal over empty squares to an empty square. A man goes one
-- square forward.
pub record QuietMove (p : Position) (from to : ℕ) : Type 0 where
  pub piece : DPiece
  pub stands : map.get p.board from ≡ Some piece
  pub own : piece.side ≡ p.turn
  pub toward : Direction
  pub before : List ℕ
  pub after : List ℕ
  pub along : ray toward from ≡ before ++ to ∷ after
  pub clear_before : AllClear (map.get p.board) before
  pub lands : map.get p.board to ≡ None
  pub man : piece.king ≡ false → (before ≡ []) × (is_forward piece.side toward ≡ true)

-- A quiet move captures nothing.
abbrev pub IsQuiet : Position → DMove → Type 0
IsQuiet p m = QuietMove p m.from m.to × (m.taken ≡ set.empty)

-- A capture route of the piece with the move's end and captured pieces, at least one.
pub record IsCapture (p : Position) (m : DMove) : Type 0 where
  pub landings : List ℕ
  pub capture : Capture p m.from landings m.taken m.to
  pub takes : 0 < set.len m.taken

-- A capture while another capture takes more pieces.
pub record IsShortCapture (p : Position) (m : DMove) : Type 0 where
  pub short : IsCapture p m
  pub longer : DMove
  pub is_capture : IsCapture p longer
  pub takes_more : set.len m.taken < set.len longer.taken

-- A legal move: a longest capture, or, if no capture exists, a quiet move.
abbrev pub Legal : Position → DMove → Type 0
Legal p m = LegalCapture p m.from m.to m.taken ⊎ ((HasCapture p → ⊥) × IsQuiet p m)

-- A position with a legal move.
abbrev pub HasMove : Position → Type 0
HasMove p = (m : DMove) × Legal p m

-- The last row of a side, on which its men promote.
abbrev pub far_row : Side → ℕ
far_row First = 0
far_row Second = 9

-- A man whose move ends on its last row becomes a king.
abbrev pub crowned : DPiece → ℕ → DPiece
crowned q to = record q { king = q.king || row_of to == far_row q.side }

-- The position after a move of this piece; the same position if there is no piece.
abbrev pub moved : Position → DMove → Option DPiece → Position
moved p m None = p
moved p m (Some q) = record {
  board = map.insert (map.retain_keys (map.remove p.board m.from) (λ n. not (set.contains m.taken n))) m.to
      (crowned q m.to);
  turn = other p.turn;
}

-- The position after a move: the piece moves, the captured pieces leave the board, and the turn passes.
abbrev pub play : Position → DMove → Position
play p m = moved p m (map.get p.board m.from)
