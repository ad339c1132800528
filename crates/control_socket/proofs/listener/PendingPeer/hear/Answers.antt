use Rattle.std.proofs.Common.{refl, sym, true≢false, ◌∙◌}
use Rattle.control_socket.proofs.ReceivedLemmas.{not_added, received_but}
use Rattle.control_socket.proofs.listener.PendingPeer.hear.Goals as goal

pub returns-then-n-eq0 : goal.returns-then-n-eq0
returns-then-n-eq0 g c =
    received_but _ _ _ _ _ _ _ _ c.loop.invariant refl c.in-Ok.ensures.bytes.0 (λ is. true≢false (sym is))

pub returns-then-is_err : goal.returns-then-is_err
returns-then-is_err g c =
    received_but _ _ _ _ _ _ _ _ c.loop.invariant
    (not_added c.extend_from_slice.result _ _ _ c.extend_from_slice.ensures.items
    (sym c.is_err.ensures.value ∙ c.if-is_err.true))
    c.in-Ok.ensures.bytes.0 (λ is. true≢false (sym is))
