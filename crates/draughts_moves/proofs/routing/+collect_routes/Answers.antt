use Rattle.std.proofs.Common.{◌-◌, [], ◌∷◌, ◌++◌, ap, ◌∙◌, arith}
use Rattle.std.specs.Prelude.{vec_len}
use Rattle.std.specs.FinSet as set
use Rattle.std.proofs.lemmas.List.{take_all}
use Rattle.squares.specs.internal.PutLemmas.{put_all-more}
use Rattle.draughts_moves.specs.Capture.{without}
use Rattle.draughts_moves.specs.Routes.{route_cmp, landings_of}
use Rattle.draughts_moves.specs.internal.Routes.{lists_in}
use Rattle.draughts_moves.proofs.RoutingLemmas.{route_cmp-total, none_left, more_left, longer_path, without_last}
use Rattle.draughts_moves.proofs.RoutingLemmas.{by_jump}
use Rattle.draughts_moves.proofs.routing.+collect_routes.Goals as goal

pub returns-then-left-eq0-clause-found : goal.returns-then-left-eq0-clause-found
returns-then-left-eq0-clause-found t c =
    let m = c.args.mover.now in
    rw (none_left (without c.args.position.now.board m.origin) m.piece c.args.played.now.taken c.args.played.now.to
    c.args.left m.taken m.at c.args.search.now.path.items c.if-left-eq0.true)
    (rw c.as_slice.ensures.value at c.in_ok-put_end.ensures)

pub loop-over-preserved : goal.loop-over-preserved
loop-over-preserved t c =
    let b = without c.args.position.now.board c.args.mover.now.origin in
    let m = c.args.played.now in
    let q = c.args.mover.now.piece in
    let taken = c.args.mover.now.taken in
    let w = c.loop-over in
    let item = c.loop-over-item.result in
    let path = c.args.search.now.path.items in
    let longer = c.in_ok-push.ensures.items ∙ ap (λ front. front ++ item.1 ∷ []) w.invariant.path_is in
    let on = longer_path b q m.taken m.to path c.push.new.self.items item.1
    (landings_of b q m.taken m.to (c.args.left - 1) (set.insert taken item.0) item.1) longer in
    record {
      so_far =
          put_all-more route_cmp route_cmp-total (by_jump b q m.taken m.to (c.args.left - 1) taken path)
          c.items-over-items.result.now w.over-index item (lists_in c.args.search.now.routes.items) (lists_in w.search.routes.items)
          (lists_in c.collect_routes.new.search.routes.items) c.loop-over-test.true c.loop-over-item.is w.invariant.so_far
          (rw (c.after_jump-next.ensures, on) at c.in_ok-collect_routes.ensures.found);
      items_are = w.invariant.items_are;
      path_is = without_last path c.collect_routes.new.search.path.items c.pop.new.self.items item.1
          (c.in_ok-collect_routes.ensures.path ∙ longer) (vec_len c.collect_routes.new.search.path)
          (omega (arith, c.collect_routes.new.search.path.ok.0)) c.pop.ensures.rest;
    }

pub returns-clause-found : goal.returns-clause-found
returns-clause-found t c =
    let m = c.args.mover.now in
    let w = c.loop-over in
    rw (more_left (without c.args.position.now.board m.origin) m.piece c.args.played.now.taken c.args.played.now.to
    c.args.left (c.args.left - 1) m.taken m.at c.args.search.now.path.items (omega arith))
    (rw (take_all w.over-index c.items-over-items.result.now c.loop-over-test.false, w.invariant.items_are)
    at w.invariant.so_far)
