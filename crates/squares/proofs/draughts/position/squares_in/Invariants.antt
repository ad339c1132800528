use Rattle.squares.proofs.DraughtsSides.{HasFirst}
use Rattle.squares.proofs.draughts.position.squares_in.Given as goal

abbrev pub invariant-loop-i : goal.invariant-loop-i
invariant-loop-i l = HasFirst l.side l.cells l.i l.squares
