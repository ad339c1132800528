use Rattle.std.proofs.Common.{◌≡◌, ℕ, ◌-◌}
use Rattle.std.specs.FinMap as map
use Rattle.shogi_moves.specs.Reach.{line}
use Rattle.shogi_moves.specs.internal.Facing.{farthest, faced}
use Rattle.shogi_moves.proofs.pins.pinned_along.Given as goal

abbrev pub invariant-loop-distance : goal.invariant-loop-distance
invariant-loop-distance l = record {
  looked : faced l.board l.side l.heading l.distance
      (line (farthest l.heading - l.distance) l.side l.heading l.at)
      ≡ faced l.board l.side l.heading 0 (line (farthest l.heading) l.side l.heading l.fn.square);
  without : (n : ℕ) → faced (map.remove l.board n) l.side l.heading l.distance
      (line (farthest l.heading - l.distance) l.side l.heading l.at)
      ≡ faced (map.remove l.board n) l.side l.heading 0 (line (farthest l.heading) l.side l.heading l.fn.square);
}
