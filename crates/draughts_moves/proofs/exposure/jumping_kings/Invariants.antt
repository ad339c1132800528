use Rattle.std.proofs.Common.{length}
use Rattle.squares.specs.DraughtsSets.{ascending}
use Rattle.draughts_moves.proofs.IdleLemmas.{AreAble}
use Rattle.draughts_moves.proofs.exposure.jumping_kings.Given as goal

abbrev pub invariant-loop-square : goal.invariant-loop-square
invariant-loop-square l = AreAble l.position l.able

abbrev pub decreases-loop-square : goal.decreases-loop-square
decreases-loop-square l = length (ascending l.rest)
