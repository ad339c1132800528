use Rattle.matchit.specs.Route.{scan}
use Rattle.matchit.specs.Seek.{param_step, seek}
use Rattle.http_desk.specs.declared.table.TheConstants.{TABLE}
use Rattle.http_desk.specs.Routes.{route_with, routes}
use Rattle.http_desk.specs.There.{IsFoundBy}
use Rattle.http_desk.proofs.EachRow.{Each, all_from}
use Rattle.http_desk.proofs.laws.paths_are_found.Goals as goal

each : Each (λ row. IsFoundBy row.0.now (route_with row.1 row.2 row.3 row.4)) TABLE
unfolding routes scan param_step seek
each = search

pub returns : goal.returns
returns c = all_from (λ row. IsFoundBy row.0.now (route_with row.1 row.2 row.3 row.4)) TABLE each
