-- Every row of the route table is in the router, and is found.
use Rattle.std.specs.Prelude.{◌≡◌, ◌==◌, ℕ, Bool, true, false, List, [], ◌∷◌, Some, option_map, Ok, All, length}
use Rattle.std.specs.Prelude.{codes, if◌then◌else◌}
use Rattle.std.specs.List.{list_any}
use Rattle.std.specs.Str.{bytes_eq}
use Rattle.matchit.specs.Order.{lookup}
use Rattle.matchit.specs.Route.{Scan, parse_route}
use Rattle.http_bodies.specs.declared.reply.Caching.{Caching}
use Rattle.http_bodies.specs.declared.reply.Caching.TheVariants.{Unspecified, NoStore}
use Rattle.http_desk.specs.declared.table.TheConstants.{TABLE}
use Rattle.http_desk.specs.declared.table.Route.{Route}
use Rattle.http_desk.specs.Routes.{route_of, route_with, routes}

-- the path of a row parses, and leads to the row's route
pub record IsThere (path : List ℕ) (route : Route) : Type 0 where
  pub scan : Scan
  pub reads : parse_route path ≡ Ok scan
  pub leads : lookup scan.pattern routes
      ≡ Some (record { pattern = scan.pattern; text = path; names = scan.names; value = route })

-- all rows of the table, and no others
pub record AreAllRoutes : Type 0 where
  pub all : All (λ row. IsThere row.0.now (route_with row.1 row.2 row.3 row.4)) TABLE
  pub no_more : length routes ≡ length TABLE

-- a path of the table with 7 for each parameter, from inside of a parameter's braces or outside
abbrev pub filled_from : Bool → List ℕ → List ℕ
filled_from inside [] = []
filled_from true (x ∷ path) = if x == 125 then 55 ∷ filled_from false path else filled_from true path
filled_from false (x ∷ path) = if x == 123 then filled_from true path else x ∷ filled_from false path

-- the route is found by an example of its path
abbrev pub IsFoundBy : List ℕ → Route → Type 0
IsFoundBy path route = option_map (λ found. found.value) (route_of (filled_from false path)) ≡ Some route

-- each row of the table is found
abbrev pub AreFound : Type 0
AreFound = All (λ row. IsFoundBy row.0.now (route_with row.1 row.2 row.3 row.4)) TABLE

-- the paths of the first description of the interface, whose replies have no lines about caching
abbrev pub first_paths : List (List ℕ)
first_paths =
    codes "/games/{id}" ∷ codes "/games/{id}/legal" ∷ codes "/events/{name}/table" ∷ codes "/games/{id}/moves/{ply}"
    ∷ codes "/games/{id}/draw/{ply}/offer" ∷ codes "/games/{id}/draw/{ply}/accept" ∷ codes "/games/{id}/resign"
    ∷ codes "/games/{id}/claim-time" ∷ codes "/games/{id}/declare/{ply}" ∷ codes "/challenges/{number}"
    ∷ codes "/challenges/{number}/withdraw" ∷ codes "/answers/{member}/{number}" ∷ []

-- the caching of the replies on a path of the table
abbrev pub caching_on : List ℕ → Caching
caching_on path = if list_any (bytes_eq path) first_paths then Unspecified else NoStore

-- each row of the table has the caching of its path
abbrev pub HaveCaching : Type 0
HaveCaching = All (λ row. row.4 ≡ caching_on row.0.now) TABLE
