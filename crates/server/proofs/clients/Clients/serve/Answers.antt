use Rattle.std.proofs.Common.{sym, ◌∙◌}
use Rattle.server.proofs.clients.Clients.serve.Goals as goal

pub refuse_host-done-requires : goal.refuse_host-done-requires
refuse_host-done-requires g c =
    let (named, names, is) = c.is_foreign.ensures in
    (_, named, rw c.as_bytes.ensures at names, sym is ∙ c.if-is_foreign.true)
