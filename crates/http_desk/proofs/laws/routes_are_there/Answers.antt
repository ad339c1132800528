use Rattle.std.proofs.Common.{◌≡◌, List, [], ℕ, Option, Some, None, Result, Ok, Err, refl}
use Rattle.matchit.specs.Order.{lookup}
use Rattle.matchit.specs.Route.{Scan, parse_route, scan}
use Rattle.matchit.specs.Router.{RouteOf}
use Rattle.matchit.specs.declared.error.InsertError.{InsertError}
use Rattle.http_desk.specs.declared.table.Route.{Route}
use Rattle.http_desk.specs.declared.table.TheConstants.{TABLE}
use Rattle.http_desk.specs.Routes.{route_with, routes}
use Rattle.http_desk.specs.There.{IsThere}
use Rattle.http_desk.proofs.EachRow.{Each, all_from}
use Rattle.http_desk.proofs.laws.routes_are_there.Goals as goal

-- the route that a path of the table leads to, and the one that it is to lead to
abbrev led : Result Scan InsertError → Option (RouteOf Route)
led (Ok read) = lookup read.pattern routes
led (Err e) = None

abbrev due : Result Scan InsertError → List ℕ → Route → Option (RouteOf Route)
due (Ok read) path route =
    Some (record { pattern = read.pattern; text = path; names = read.names; value = route })
due (Err e) path route =
    Some (record { pattern = path; text = path; names = []; value = route })

there : (path : List ℕ) (route : Route) → led (parse_route path) ≡ due (parse_route path) path route
    → IsThere path route
there path route is = by (parse_route path) refl
  where
    by : (read : Result Scan InsertError) → parse_route path ≡ read → IsThere path route
    by (Ok read) e = record { scan = read; reads = e; leads = rw e at is }
    by (Err fault) e = absurd (let none : led (Err fault) ≡ due (Err fault) path route = rw e at is in cc)

each : Each (λ row. IsThere row.0.now (route_with row.1 row.2 row.3 row.4)) TABLE
unfolding routes scan
each = search there

pub returns : goal.returns
unfolding routes scan
returns c = record {
  all = all_from (λ row. IsThere row.0.now (route_with row.1 row.2 row.3 row.4)) TABLE each;
  no_more = refl;
}
