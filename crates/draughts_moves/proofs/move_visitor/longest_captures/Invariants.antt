use Rattle.std.proofs.Common.{length, []}
use Rattle.squares.specs.DraughtsSets.{ascending}
use Rattle.squares.specs.OrderedLists.{put_all}
use Rattle.draughts_moves.specs.Search.{greatest_at, most}
use Rattle.draughts_moves.specs.Listing.{move_cmp}
use Rattle.draughts_moves.specs.internal.Found.{captured}
use Rattle.draughts_moves.proofs.FoundLemmas.{Gathers, all_captured}
use Rattle.draughts_moves.proofs.move_visitor.longest_captures.Given as goal

abbrev pub invariant-loop-square : goal.invariant-loop-square
invariant-loop-square l =
    let p = l.position in
    Gathers (greatest_at p) (captured p (most p)) (most p) (put_all move_cmp (all_captured p) []) (ascending l.able)
    l.found.size l.found.moves.items

abbrev pub decreases-loop-square : goal.decreases-loop-square
decreases-loop-square l = length (ascending l.able)
