-- The choice of the only matching move.
use Rattle.std.specs.Prelude.{◌==◌, ◌&&◌, Bool}
use Rattle.squares.specs.declared.draughts.moves.DMove.{DMove}
use Rattle.squares.specs.DraughtsSets.{same_squares}

-- whether two moves have the same origin, the same destination and the same captured pieces
abbrev pub same_move : DMove → DMove → Bool
same_move a b = (a.from == b.from) && ((a.to == b.to) && same_squares a.taken b.taken)
