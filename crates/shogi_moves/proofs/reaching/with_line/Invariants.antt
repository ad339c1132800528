use Rattle.std.proofs.Common.{◌≡◌, ◌||◌, ℕ, ◌-◌}
use Rattle.std.specs.FinSet as set
use Rattle.shogi_moves.specs.Reach.{line}
use Rattle.shogi_moves.specs.internal.Search.{comes_to}
use Rattle.shogi_moves.proofs.reaching.with_line.Given as goal

abbrev pub invariant-loop : goal.invariant-loop
invariant-loop l =
    (to : ℕ) → (set.contains l.found to || comes_to l.board to (line (l.way.distance - l.counter) l.way.side l.way.heading l.at))
    ≡ (set.contains l.fn.squares to || comes_to l.board to (line l.way.distance l.way.side l.way.heading l.fn.way.from))
