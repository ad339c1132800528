use Rattle.std.proofs.Common.{◌≡◌, length}
use Rattle.squares.specs.DraughtsSets.{ascending}
use Rattle.squares.proofs.DraughtsKept.{cleared_of}
use Rattle.squares.proofs.draughts.position.DPos.clear_all.Given as goal

abbrev pub invariant-loop-square : goal.invariant-loop-square
invariant-loop-square l =
    record {
      board : cleared_of l.rest l.self.board ≡ cleared_of l.fn.squares l.fn.self.board;
      turn : l.self.turn ≡ l.fn.self.turn;
    }

abbrev pub decreases-loop-square : goal.decreases-loop-square
decreases-loop-square l = length (ascending l.rest)
