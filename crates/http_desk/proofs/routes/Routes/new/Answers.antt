use Rattle.http_desk.specs.Routes.{routes}
use Rattle.http_desk.proofs.routes.Routes.new.Goals as goal

pub invariant_of-result : goal.invariant_of-result
unfolding routes
invariant_of-result c = c.in_ok-router.ensures
