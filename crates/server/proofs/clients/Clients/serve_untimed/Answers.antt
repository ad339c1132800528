use Rattle.std.proofs.Common.{refl}
use Rattle.http_desk.specs.declared.faults.ClubFault.TheVariants.{Clock}
use Rattle.server.proofs.RejectedLemmas.{untimed}
use Rattle.server.proofs.clients.Clients.serve_untimed.Goals as goal

pub returns : goal.returns
returns c = untimed c.serve_within-done.result (c.serve_within-done.ensures.unavailable Clock refl).1
