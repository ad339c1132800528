use Rattle.std.proofs.Common.{◌≡◌, ◌-◌, ℕ, take}
use Rattle.std.specs.FinSet as set
use Rattle.draughts_moves.specs.Capture.{without}
use Rattle.draughts_moves.specs.internal.Capture.{Reaches}
use Rattle.draughts_moves.specs.Search.{jumps}
use Rattle.squares.specs.internal.In.{In}
use Rattle.draughts_moves.proofs.reaches.+reaches.Given as goal

abbrev pub invariant-loop-over : goal.invariant-loop-over
invariant-loop-over l =
    let b = without l.position.board l.mover.origin in
    record {
      none : (j : ℕ × ℕ) → In j (take l.over-index l.over-items)
          → Reaches b l.mover.piece (l.left - 1) (set.insert l.mover.taken j.0) j.1 l.played.taken l.played.to → ⊥;
      items_are : l.over-items ≡ jumps b l.mover.piece l.mover.taken l.fn.mover.at;
    }

abbrev pub decreases-reaches : goal.decreases-reaches
decreases-reaches l = l.left
