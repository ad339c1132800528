use Rattle.std.proofs.Common.{◌≡◌, ◌++◌, take, drop}
use Rattle.squares.specs.OrderedLists.{put}
use Rattle.draughts_moves.specs.Routes.{route_cmp}
use Rattle.draughts_moves.specs.internal.Routes.{lists_in}
use Rattle.draughts_moves.proofs.routing.place_of.Given as goal

abbrev pub invariant-loop-i : goal.invariant-loop-i
invariant-loop-i l = take l.i (lists_in l.routes) ++ put route_cmp l.route (drop l.i (lists_in l.routes))
    ≡ put route_cmp l.route (lists_in l.routes)
