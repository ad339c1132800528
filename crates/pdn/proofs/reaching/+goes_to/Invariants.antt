use Rattle.std.proofs.Common.{◌≡◌, ℕ, take}
use Rattle.draughts_moves.specs.Capture.{without}
use Rattle.draughts_moves.specs.Search.{jumps, prey_left}
use Rattle.squares.specs.internal.In.{In}
use Rattle.pdn.specs.internal.Reaching.{StepsTo}
use Rattle.pdn.proofs.reaching.+goes_to.Given as goal

abbrev pub invariant-loop-over : goal.invariant-loop-over
invariant-loop-over l =
    let b = without l.position.board l.mover.origin in
    record {
      none : (j : ℕ × ℕ) → In j (take l.over-index l.over-items) → StepsTo b l.mover.piece l.mover.taken j l.middle l.to
          → ⊥;
      items_are : l.over-items ≡ jumps b l.mover.piece l.mover.taken l.fn.mover.at;
    }

abbrev pub decreases-goes_to : goal.decreases-goes_to
decreases-goes_to l = prey_left (without l.position.now.board l.mover.now.origin) l.mover.now.piece l.mover.now.taken
