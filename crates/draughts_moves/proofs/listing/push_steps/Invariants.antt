use Rattle.std.proofs.Common.{◌≡◌, ◌++◌, length}
use Rattle.std.specs.Prelude.{map}
use Rattle.squares.specs.DraughtsSets.{ascending}
use Rattle.draughts_moves.specs.Listing.{step_to}
use Rattle.draughts_moves.proofs.listing.push_steps.Given as goal

abbrev pub invariant-loop-to : goal.invariant-loop-to
invariant-loop-to l = l.moves.items ++ map (step_to l.from) (ascending l.rest) ≡ l.fn.moves.items
    ++ map (step_to l.from) (ascending l.fn.targets)

abbrev pub decreases-loop-to : goal.decreases-loop-to
decreases-loop-to l = length (ascending l.rest)
