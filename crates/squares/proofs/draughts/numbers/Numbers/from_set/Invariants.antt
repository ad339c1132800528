use Rattle.std.proofs.Common.{◌≡◌, ◌+◌, ◌≤◌, ◌++◌, length, take}
use Rattle.squares.specs.DraughtsSets.{ascending}
use Rattle.squares.proofs.draughts.numbers.Numbers.from_set.Given as goal

abbrev pub invariant-loop-square : goal.invariant-loop-square
invariant-loop-square l =
    record {
      few : l.len + length (ascending l.rest) ≤ 50;
      room : length l.numbers ≡ 50;
      so_far : take l.len l.numbers ++ ascending l.rest ≡ ascending l.fn.set;
    }

abbrev pub decreases-loop-square : goal.decreases-loop-square
decreases-loop-square l = length (ascending l.rest)
