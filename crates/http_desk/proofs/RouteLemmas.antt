-- What a router holds after its routes were put in.
use Rattle.std.proofs.Common.{◌≡◌, ◌∙◌, ◌<◌, ◌≤◌, ◌+◌, ℕ, List, map, length, drop, get_or, Result, Ok, Err}
use Rattle.std.proofs.Common.{sym, ap, add-one, drop-cons}
use Rattle.std.proofs.Math.ListN.{drop_of_length-le}
use Rattle.matchit.specs.Rows.{RowsOf}
use Rattle.matchit.specs.Router.{RouteOf, InsertsRead}
use Rattle.matchit.specs.Route.{Scan, parse_route}
use Rattle.matchit.specs.declared.error.InsertError.{InsertError}
use Rattle.http_desk.specs.declared.table.Route.{Route}
use Rattle.http_desk.specs.Routes.{with_route, with_routes}

pub inserted : (read : Result Scan InsertError) (page : Route) (old new : RowsOf (RouteOf Route)) (u : Unit {0})
    → InsertsRead read page old new (Ok u) → new ≡ with_route read page old
inserted (Ok s) page old new u h = h.1
inserted (Err e) page old new u h = h.0

module _ {A : Type 0} where
  -- one route more of a list was put in
  pub put_next : (items : List A) (entry : A → List ℕ × Route) (i : ℕ) (other : A) (old new all : RowsOf (RouteOf Route))
      → i < length items
      → new ≡ with_route (parse_route (entry (get_or items i other)).0) (entry (get_or items i other)).1 old
      → with_routes (map entry (drop i items)) old ≡ all → with_routes (map entry (drop (i + 1) items)) new ≡ all
  put_next items entry i other old new all inside put so_far =
      rw (add-one, put) (rw (drop-cons items i other inside) at so_far)

  -- all routes of the list were put in
  pub put_all : (items : List A) (entry : A → List ℕ × Route) (i : ℕ) (rows all : RowsOf (RouteOf Route))
      → length items ≤ i → with_routes (map entry (drop i items)) rows ≡ all → rows ≡ all
  put_all items entry i rows all end so_far =
      ap (λ more. with_routes (map entry more) rows) (sym (drop_of_length-le items end)) ∙ so_far
