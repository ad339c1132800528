use Rattle.std.proofs.Common.{refl}
use Rattle.control_socket.proofs.control_requests.parse_order.Goals as goal

pub returns-in-Some : goal.returns-in-Some
returns-in-Some c = (refl, rw c.in-Some.is at c.in_ok-errand.ensures)

pub returns-in-None : goal.returns-in-None
returns-in-None c = rw c.in-None.is at c.in_ok-errand.ensures
