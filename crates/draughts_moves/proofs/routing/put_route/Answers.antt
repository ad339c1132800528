use Rattle.std.proofs.Common.{sym, ap, ◌∙◌}
use Rattle.draughts_moves.specs.internal.Routes.{lists_in}
use Rattle.draughts_moves.proofs.RoutingLemmas.{lists_in-insert}
use Rattle.draughts_moves.proofs.routing.put_route.Goals as goal

pub returns-in_ok-insert-in-Some : goal.returns-in_ok-insert-in-Some
returns-in_ok-insert-in-Some c =
    let rs = c.args.routes.now.items in
    rw (lists_in-insert rs c.in_ok-copy-in-Some.copy c.in-Some.i, c.in_ok-copy-in-Some.ensures.items)
    at (ap lists_in c.in_ok-insert-in-Some.ensures.items)
    ∙ sym (rw c.as_slice.ensures.value at c.in-Some.ensures.1)
