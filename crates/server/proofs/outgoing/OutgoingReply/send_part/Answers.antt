use Rattle.std.proofs.Common.{Some, refl}
use Rattle.http_head.proofs.Proved.{appends_slice}
use Rattle.server.proofs.outgoing.OutgoingReply.send_part.Goals as goal

pub returns-else-n-eq0-clause-in_order : goal.returns-else-n-eq0-clause-in_order
returns-else-n-eq0-clause-in_order g c =
    λ held has.
    appends_slice (Some held) _ _ c.args.self.now.bytes.items c.args.self.now.sent c.in-Ok.n _ refl has
    (rw c.deref.ensures.value at c.in-Ok.ensures.bytes)
