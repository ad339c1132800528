use Rattle.std.proofs.Common.{◌≡◌, [], drop, map}
use Rattle.http_desk.specs.Routes.{route_with, with_routes}
use Rattle.http_desk.proofs.routes.router_of.Given as goal

abbrev pub invariant-loop-path : goal.invariant-loop-path
invariant-loop-path l =
    with_routes (map (λ row. (row.0.now, route_with row.1 row.2 row.3 row.4)) (drop l.path-index l.rows)) l.router
    ≡ with_routes (map (λ row. (row.0.now, route_with row.1 row.2 row.3 row.4)) l.rows) []
