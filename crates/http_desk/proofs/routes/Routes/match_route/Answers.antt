use Rattle.std.proofs.Common.{◌∙◌, option_map, sym, ap}
use Rattle.http_desk.specs.Routes.{endpoint_of_path}
use Rattle.http_desk.proofs.AskedRoutes.{endpoint_by_parts}
use Rattle.http_desk.proofs.routes.Routes.match_route.Goals as goal

pub endpoint_of_route-requires : goal.endpoint_of_route-requires
endpoint_of_route-requires c =
    let known = ap (option_map (λ t. t.now)) (sym c.in-Some-text_of.is) ∙ c.text_of.ensures in
    (endpoint_by_parts _ _ _ _ _ c.self.invariant known c.in-Ok.ensures.found c.in-Ok.ensures.path).texts

pub returns-in-Ok : goal.returns-in-Ok
returns-in-Ok c =
    let known = ap (option_map (λ t. t.now)) (sym c.in-Some-text_of.is) ∙ c.text_of.ensures in
    let path = ap (option_map (λ t. t.now)) (sym c.in-Some.is) ∙ c.path_of.ensures in
    let asked = endpoint_by_parts _ _ _ _ _ c.self.invariant known c.in-Ok.ensures.found c.in-Ok.ensures.path in
    c.endpoint_of_route.ensures ∙ asked.asks ∙ ap endpoint_of_path path
