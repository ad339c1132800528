-- Path parameters as `matchit` takes them, and the endpoint that a route makes of them. No promise of the program rests
-- on these definitions.
use Rattle.std.specs.Prelude.{ℕ, List, Option}
use Rattle.matchit.specs.Params.{walk, named}
use Rattle.matchit.specs.declared.params.Params.{Params}
use Rattle.http_desk.specs.declared.table.Route.{Route}
use Rattle.http_desk.specs.Routes.{Endpoint, endpoint_by}

-- the names of parameters, each with its segment of the path
abbrev pub Parts : Type 0
Parts = List (List ℕ × List ℕ)

abbrev pub parts_taken : Params → Parts
parts_taken params = walk params.pattern.now params.text.now params.path.now params.names.now 0 0

-- the endpoint of a route with these parameters
abbrev pub endpoint_taken : Route → Parts → Option Endpoint
endpoint_taken route parts = endpoint_by route (λ name. named name parts)
