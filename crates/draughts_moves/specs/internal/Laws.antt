-- Properties of the rules as a whole. No promise of the program rests on these definitions.
use Rattle.std.specs.Prelude.{◌≡◌, ◌↔◌, ℕ, List, [], ◌∷◌, ◌++◌, IsTrue}
use Rattle.std.specs.FinSet as set
use Rattle.squares.specs.declared.draughts.piece.DPiece.{DPiece}
use Rattle.squares.specs.declared.draughts.moves.DMove.{DMove}
use Rattle.squares.specs.DraughtsBoard.{Position}
use Rattle.squares.specs.DraughtsSets.{Squares}
use Rattle.squares.specs.Sides.{other}
use Rattle.draughts_moves.specs.Capture.{Cells, Jump, Route, HasCapture}
use Rattle.draughts_moves.specs.Legal.{IsCapture, Legal, HasMove, play}
use Rattle.draughts_moves.specs.internal.Search.{has_move}
use Rattle.draughts_moves.specs.Check.{IsCheck}
use Rattle.draughts_moves.specs.internal.Check.{check_of}

-- The computed check agrees with the rules.
abbrev pub CheckIs : Type 0
CheckIs = (p : Position) (m : DMove) → IsCheck p m (check_of p m)

-- The computed `has_move` agrees with the rules.
abbrev pub HasMoveIs : Type 0
HasMoveIs = (p : Position) → IsTrue (has_move p) ↔ HasMove p

-- A capture exists exactly if a piece has a first jump.
abbrev pub CapturesBeginWithJumps : Type 0
CapturesBeginWithJumps = (p : Position) → ((m : DMove) × IsCapture p m) ↔ HasCapture p

-- A legal move passes the turn.
abbrev pub TurnPasses : Type 0
TurnPasses = (p : Position) (m : DMove) → Legal p m → (play p m).turn ≡ other p.turn

-- A capture route that ends on `at`, followed by one more jump.
pub record GrownRoute (b : Cells) (p : DPiece) (start : Squares) (from : ℕ) (landings : List ℕ) (last : ℕ)
    (all : Squares) (to : ℕ) : Type 0 where
  pub at : ℕ
  pub taken : Squares
  pub over : ℕ
  pub route : Route b p start from landings taken at
  pub jump : Jump b p taken at over last
  pub takes : set.insert taken over ≡ all
  pub ends : last ≡ to

-- The routes with one more landing are the routes extended by one jump.
abbrev pub RoutesGrow : Type 0
RoutesGrow =
    (b : Cells) (p : DPiece) (start : Squares) (from : ℕ) (landings : List ℕ) (last : ℕ) (all : Squares) (to : ℕ)
    → Route b p start from (landings ++ last ∷ []) all to ↔ GrownRoute b p start from landings last all to
