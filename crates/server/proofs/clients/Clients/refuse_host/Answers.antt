use Rattle.server.proofs.RejectedLemmas.{host_refused}
use Rattle.server.proofs.clients.Clients.refuse_host.Goals as goal

pub returns : goal.returns
returns c =
    host_refused _ c.refuse_host-done.result c.requires (rw c.into_bytes.ensures at c.refuse_host-done.ensures.request)
    (rw c.into_bytes.ensures at c.refuse_host-done.ensures.refused)
