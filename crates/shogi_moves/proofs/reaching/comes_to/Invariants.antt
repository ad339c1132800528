use Rattle.std.proofs.Common.{◌≡◌, ◌-◌}
use Rattle.shogi_moves.specs.Reach.{line}
use Rattle.shogi_moves.specs.internal.Search.{comes_to}
use Rattle.shogi_moves.proofs.reaching.comes_to.Given as goal

abbrev pub invariant-loop : goal.invariant-loop
invariant-loop l = comes_to l.board l.to (line (l.way.distance - l.counter) l.way.side l.way.heading l.at)
    ≡ comes_to l.board l.to (line l.way.distance l.way.side l.way.heading l.fn.way.from)
