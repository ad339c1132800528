-- Routing: the endpoint of a request target, by the route table.
use Rattle.std.specs.Prelude.{ℕ, List, [], ◌∷◌, ◌++◌, Option, Some, None, Result, Ok, Err, codes, map}
use Rattle.std.specs.Prelude.{if◌then◌else◌}
use Rattle.std.specs.Str.{bytes_eq, is_utf8}
use Rattle.matchit.specs.Rows.{RowsOf}
use Rattle.matchit.specs.Router.{RouteOf, route_from}
use Rattle.matchit.specs.Order.{placed}
use Rattle.matchit.specs.Route.{Scan, parse_route}
use Rattle.matchit.specs.Seek.{first}
use Rattle.matchit.specs.declared.error.InsertError.{InsertError}
use Rattle.http_desk.specs.declared.table.TheConstants.{TABLE}
use Rattle.http_desk.specs.declared.table.Access.{Access}
use Rattle.http_desk.specs.declared.table.Route.{Route}
use Rattle.http_desk.specs.declared.table.Topic.{Topic}
use Rattle.http_bodies.specs.declared.refusals.Method.{Method}
use Rattle.http_bodies.specs.declared.reply.Caching.{Caching}
use Rattle.http_bodies.specs.declared.reply.Caching.TheVariants.{Unspecified}
use Rattle.http_desk.specs.Paths.{segments, path_of}
use Rattle.http_head.specs.Head.{number_of}

-- ---- the route of a path

-- the routing table with one more route, as `matchit` parses it
abbrev pub with_route : Result Scan InsertError → Route → RowsOf (RouteOf Route) → RowsOf (RouteOf Route)
with_route (Ok scan) route rows = placed (scan.pattern, route_from scan route) rows
with_route (Err e) route rows = rows

-- the routing table with the routes of a list inserted in order
abbrev pub with_routes : List (List ℕ × Route) → RowsOf (RouteOf Route) → RowsOf (RouteOf Route)
with_routes [] rows = rows
with_routes ((path, route) ∷ more) rows = with_routes more (with_route (parse_route path) route rows)

-- the route of a row of the table
abbrev pub route_with : Method → Access → Topic → Caching → Route
route_with method access topic caching =
    record { method = method; access = access; topic = topic; caching = caching }

-- the routing table of the server
unfoldable pub routes : RowsOf (RouteOf Route)
routes = with_routes (map (λ row. (row.0.now, route_with row.1 row.2 row.3 row.4)) TABLE) []

-- the route that `matchit` finds for a path, with its path in the table as `text`
abbrev pub route_of : List ℕ → Option (RouteOf Route)
route_of path = first routes path

-- ---- its parameters

-- a route, and the parameters of a path by their names in the route table: 0 or empty if there is none of this name
pub record Endpoint : Type 0 where
  pub route : Route
  pub id : ℕ
  pub ply : ℕ
  pub number : ℕ
  pub name : List ℕ
  pub member : List ℕ

-- a parameter as a number, if it is valid; 0 if there is none
abbrev pub number_given : Option (List ℕ) → Option ℕ
number_given None = Some 0
number_given (Some part) = number_of part

-- a parameter as text; empty if there is none
abbrev pub text_given : Option (List ℕ) → List ℕ
text_given None = []
text_given (Some part) = part

-- the endpoint with these parameters, if the numbers are valid
abbrev pub with_parameters : Route → Option ℕ → Option ℕ → Option ℕ → List ℕ → List ℕ → Option Endpoint
with_parameters route None ply number name member = None
with_parameters route (Some id) None number name member = None
with_parameters route (Some id) (Some ply) None name member = None
with_parameters route (Some id) (Some ply) (Some number) name member =
    Some (record { route = route; id = id; ply = ply; number = number; name = name; member = member })

-- the endpoint of a route, given its parameter of each name
abbrev pub endpoint_by : Route → (List ℕ → Option (List ℕ)) → Option Endpoint
endpoint_by route parameter =
    with_parameters route (number_given (parameter (codes "id"))) (number_given (parameter (codes "ply")))
    (number_given (parameter (codes "number"))) (text_given (parameter (codes "name")))
    (text_given (parameter (codes "member")))

-- the segment of a path in the place where the table's path has this name in braces
abbrev pub parameter_of : List (List ℕ) → List (List ℕ) → List ℕ → Option (List ℕ)
parameter_of [] path name = None
parameter_of (part ∷ parts) [] name = None
parameter_of (part ∷ parts) (segment ∷ path) name =
    if bytes_eq part (codes "{" ++ name ++ codes "}") then Some segment else parameter_of parts path name

-- the endpoint of a route and a path
abbrev pub endpoint_of : Option (RouteOf Route) → List ℕ → Option Endpoint
endpoint_of None path = None
endpoint_of (Some found) path = endpoint_by found.value (parameter_of (segments found.text) (segments path))

-- the endpoint of a path, if it is UTF-8 and a route matches it
abbrev pub endpoint_of_path : Option (List ℕ) → Option Endpoint
endpoint_of_path None = None
endpoint_of_path (Some path) = if is_utf8 path then endpoint_of (route_of path) path else None

-- the endpoint of a request target, if a route matches it and its numbers are valid
abbrev pub match_route : List ℕ → Option Endpoint
match_route target = endpoint_of_path (path_of target)

-- the caching of the replies at an endpoint; unspecified if no route matches
abbrev pub caching_at : Option Endpoint → Caching
caching_at None = Unspecified
caching_at (Some asked) = asked.route.caching

-- the caching of all replies to requests for a target
unfoldable pub caching_for : List ℕ → Caching
caching_for target = caching_at (match_route target)
