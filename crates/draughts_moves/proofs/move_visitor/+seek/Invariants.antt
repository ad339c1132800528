use Rattle.std.proofs.Common.{◌≡◌, ◌+◌, max, drop}
use Rattle.std.specs.FinSet as set
use Rattle.std.specs.List.{flat_map}
use Rattle.squares.specs.OrderedLists.{put_all}
use Rattle.draughts_moves.specs.Capture.{without}
use Rattle.draughts_moves.specs.Search.{jumps, greatest, prey_left}
use Rattle.draughts_moves.specs.Listing.{move_cmp}
use Rattle.draughts_moves.specs.internal.Found.{kept}
use Rattle.draughts_moves.proofs.FoundLemmas.{Gathers, by_jump, ends_by}
use Rattle.draughts_moves.proofs.move_visitor.+seek.Given as goal

abbrev pub invariant-loop-over : goal.invariant-loop-over
invariant-loop-over l =
    let m = l.fn.mover in
    let b = without l.position.board m.origin in
    let most = max l.fn.found.size (set.len m.taken + greatest b m.piece m.taken m.at) in
    record {
      gathers : Gathers (by_jump b m) (ends_by b m most) most
          (put_all move_cmp (flat_map (ends_by b m most) l.over-items)
          (kept l.fn.found.size most l.fn.found.moves.items))
          (drop l.over-index l.over-items) l.found.size l.found.moves.items;
      items_are : l.over-items ≡ jumps b m.piece m.taken m.at;
      mover_is : l.mover ≡ m;
    }

abbrev pub decreases-seek : goal.decreases-seek
decreases-seek l = prey_left (without l.position.now.board l.mover.now.origin) l.mover.now.piece l.mover.now.taken
