use Rattle.std.proofs.Common.{◌≡◌, ◌++◌, length}
use Rattle.std.specs.List.{flat_map}
use Rattle.squares.specs.DraughtsSets.{ascending}
use Rattle.draughts_moves.specs.internal.Listing.{quiet_in_order, quiet_list}
use Rattle.draughts_moves.proofs.listing.quiet_moves.Given as goal

abbrev pub invariant-loop-square : goal.invariant-loop-square
invariant-loop-square l = l.moves.items ++ flat_map (quiet_in_order l.position) (ascending l.able)
    ≡ quiet_list l.position

abbrev pub decreases-loop-square : goal.decreases-loop-square
decreases-loop-square l = length (ascending l.able)
