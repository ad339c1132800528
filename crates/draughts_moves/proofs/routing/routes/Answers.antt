use Rattle.std.proofs.Common.{◌≡◌, ℕ, List, [], sym, ◌∙◌}
use Rattle.std.specs.FinSet as set
use Rattle.squares.specs.OrderedLists.{put_all}
use Rattle.draughts_moves.specs.Capture.{without}
use Rattle.draughts_moves.specs.Routes.{route_cmp, landings_of}
use Rattle.draughts_moves.specs.internal.Routes.{lists_in}
use Rattle.draughts_moves.proofs.RoutingLemmas.{sorted_routes, same_list, found-captures}
use Rattle.draughts_moves.proofs.routing.routes.Goals as goal

abbrev found : goal.After-drop-search-in-Some → List (List ℕ)
found c = landings_of (without c.args.position.now.board c.args.played.now.from) c.in-Some.piece c.args.played.now.taken
    c.args.played.now.to (set.len c.args.played.now.taken) set.empty c.args.played.now.from

found_all : (c : goal.After-drop-search-in-Some)
    → lists_in c.collect_routes.new.search.routes.items ≡ put_all route_cmp (found c) []
found_all c =
    rw (c.new.ensures.items, same_list, c.len-size.ensures, c.new-mover.ensures, c.new-2.ensures.items)
    at c.in_ok-collect_routes-in-Some.ensures.found

pub returns-in-Some-clause-in_order : goal.returns-in-Some-clause-in_order
returns-in-Some-clause-in_order c = rw (found_all c) (sorted_routes (found c))

pub returns-in-Some-clause-members : goal.returns-in-Some-clause-members
returns-in-Some-clause-members c = λ ls. rw (found_all c)
    (found-captures c.args.position.now c.args.played.now c.in-Some.piece (sym c.own_at.ensures ∙ c.in-Some.is) ls)

pub returns-clause-in_order : goal.returns-clause-in_order
returns-clause-in_order c = rw c.new-2.ensures.items (sorted_routes [])
