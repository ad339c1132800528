use Rattle.std.proofs.Common.{sym, ◌∙◌, arith}
use Rattle.squares.specs.internal.PutLemmas.{put-at_equal, put-at_greater, put-at_less}
use Rattle.draughts_moves.specs.Routes.{route_cmp}
use Rattle.draughts_moves.specs.internal.Routes.{lists_in}
use Rattle.draughts_moves.proofs.RoutingLemmas.{route_cmp-total, list_at, length-lists_in, put-last}
use Rattle.draughts_moves.proofs.routing.place_of.Goals as goal

pub returns-in-Equal : goal.returns-in-Equal
returns-in-Equal c =
    let rs = c.args.routes.now in
    let there = c.index-routes-i in
    sym
    (put-at_equal route_cmp route_cmp-total c.args.route.now there.result.items (lists_in rs) c.loop-i.i
    (omega (arith, length-lists_in rs)) (list_at rs c.loop-i.i there.result (omega arith) there.is)
    c.loop-i.invariant (rw c.as_slice.ensures.value at (sym c.cmp.ensures ∙ c.in-Equal.is)))

pub returns-in-Greater : goal.returns-in-Greater
returns-in-Greater c =
    let rs = c.args.routes.now in
    let there = c.index-routes-i in (
      omega arith,
      sym
          (put-at_greater route_cmp route_cmp-total c.args.route.now there.result.items (lists_in rs) c.loop-i.i
          (omega (arith, length-lists_in rs)) (list_at rs c.loop-i.i there.result (omega arith) there.is)
          c.loop-i.invariant (rw c.as_slice.ensures.value at (sym c.cmp.ensures ∙ c.in-Greater.is))),
    )

pub loop-i-preserved : goal.loop-i-preserved
loop-i-preserved c =
    let rs = c.args.routes.now in
    let there = c.index-routes-i in
    put-at_less route_cmp route_cmp-total c.args.route.now there.result.items (lists_in rs) c.loop-i.i
    (omega (arith, length-lists_in rs)) (list_at rs c.loop-i.i there.result (omega arith) there.is)
    c.loop-i.invariant (rw c.as_slice.ensures.value at (sym c.cmp.ensures ∙ c.in-Less.is))

pub returns : goal.returns
returns c =
    let rs = c.args.routes.now in (
      omega arith,
      put-last c.args.route.now (lists_in rs) c.loop-i.i _ (length-lists_in rs) c.loop-i-test.false
          c.loop-i.invariant,
    )
