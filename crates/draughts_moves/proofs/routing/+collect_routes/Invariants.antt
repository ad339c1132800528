use Rattle.std.proofs.Common.{◌≡◌, ◌-◌, take}
use Rattle.std.specs.List.{flat_map}
use Rattle.squares.specs.OrderedLists.{put_all}
use Rattle.draughts_moves.specs.Capture.{without}
use Rattle.draughts_moves.specs.Search.{jumps}
use Rattle.draughts_moves.specs.Routes.{route_cmp}
use Rattle.draughts_moves.specs.internal.Routes.{lists_in}
use Rattle.draughts_moves.proofs.RoutingLemmas.{by_jump}
use Rattle.draughts_moves.proofs.routing.+collect_routes.Given as goal

abbrev pub invariant-loop-over : goal.invariant-loop-over
invariant-loop-over l =
    let b = without l.position.board l.mover.origin in
    record {
      so_far : lists_in l.search.routes.items
          ≡
          put_all route_cmp
          (flat_map (by_jump b l.mover.piece l.played.taken l.played.to (l.left - 1) l.mover.taken l.fn.search.path.items)
          (take l.over-index l.over-items)) (lists_in l.fn.search.routes.items);
      items_are : l.over-items ≡ jumps b l.mover.piece l.mover.taken l.fn.mover.at;
      path_is : l.search.path.items ≡ l.fn.search.path.items;
    }

abbrev pub decreases-collect_routes : goal.decreases-collect_routes
decreases-collect_routes l = l.left
