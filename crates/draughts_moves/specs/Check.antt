-- The answer of a move check, by the rules and computed.
use Rattle.std.specs.Prelude.{◌≡◌, ◌↔◌, Result, Err, IsOk}
use Rattle.squares.specs.declared.draughts.moves.DMove.{DMove}
use Rattle.squares.specs.DraughtsBoard.{Position}
use Rattle.draughts_moves.specs.declared.checking.Illegal.{Illegal}
use Rattle.draughts_moves.specs.declared.checking.Illegal.TheVariants.{MustCapture, NotLongest}
use Rattle.draughts_moves.specs.Capture.{HasCapture}
use Rattle.draughts_moves.specs.Legal.{IsQuiet, IsShortCapture, Legal}

-- The answer of a move check: the move is legal, or the reason why it is not.
abbrev pub Answer : Type 0
Answer = Result (Unit {0}) Illegal

-- Legal moves pass. A quiet move while a capture exists, and a capture shorter than the longest, have their own
-- refusals; every other refused move is no possible move.
pub record IsCheck (p : Position) (m : DMove) (answer : Answer) : Type 0 where
  pub legal : IsOk answer ↔ Legal p m
  pub must_capture : (answer ≡ Err MustCapture) ↔ (IsQuiet p m × HasCapture p)
  pub not_longest : (answer ≡ Err NotLongest) ↔ IsShortCapture p m
