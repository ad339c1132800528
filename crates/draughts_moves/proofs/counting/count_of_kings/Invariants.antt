use Rattle.std.proofs.Common.{◌≡◌, ◌+◌, length}
use Rattle.std.specs.List.{sum_by}
use Rattle.squares.specs.DraughtsSets.{ascending}
use Rattle.draughts_moves.specs.internal.Counting.{quiet_count, king_count, sum_squares}
use Rattle.draughts_moves.proofs.counting.count_of_kings.Given as goal

abbrev pub invariant-loop-square : goal.invariant-loop-square
invariant-loop-square l = l.count + sum_by (quiet_count l.position) (ascending l.kings)
    ≡ sum_squares (king_count l.position)

abbrev pub decreases-loop-square : goal.decreases-loop-square
decreases-loop-square l = length (ascending l.kings)
