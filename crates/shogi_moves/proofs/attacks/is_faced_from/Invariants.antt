use Rattle.std.proofs.Common.{◌≡◌, ◌-◌}
use Rattle.shogi_moves.specs.Reach.{line}
use Rattle.shogi_moves.specs.internal.Facing.{farthest, faced}
use Rattle.shogi_moves.proofs.attacks.is_faced_from.Given as goal

abbrev pub invariant-loop-distance : goal.invariant-loop-distance
invariant-loop-distance l = faced l.board l.side l.heading l.distance
    (line (farthest l.heading - l.distance) l.side l.heading l.at)
    ≡ faced l.board l.side l.heading l.passed
    (line (farthest l.heading - l.passed) l.side l.heading l.fn.from)
