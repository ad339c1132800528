use Rattle.std.proofs.Common.{ap, map}
use Rattle.http_desk.specs.Routes.{route_with, with_routes}
use Rattle.http_desk.proofs.RouteLemmas.{inserted, put_next, put_all}
use Rattle.http_desk.proofs.routes.router_of.Goals as goal

pub loop-path-init : goal.loop-path-init
loop-path-init c = ap (with_routes (map (λ row. (row.0.now, route_with row.1 row.2 row.3 row.4)) c.args.rows.now)) c.new-router.ensures

pub loop-path-preserved : goal.loop-path-preserved
loop-path-preserved c =
    put_next c.args.rows.now (λ row. (row.0.now, route_with row.1 row.2 row.3 row.4)) c.loop-path.path-index _ c.loop-path.router
    c.insert.new.self _ c.loop-path-test.true (inserted _ _ _ _ c.in_ok-insert.field-0 c.in_ok-insert.ensures)
    c.loop-path.invariant

pub returns : goal.returns
returns c =
    put_all c.args.rows.now (λ row. (row.0.now, route_with row.1 row.2 row.3 row.4)) c.loop-path.path-index c.loop-path.router _
    c.loop-path-test.false c.loop-path.invariant
