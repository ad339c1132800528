use Rattle.std.proofs.Common.{refl, sym, ◌∙◌}
use Rattle.control_socket.proofs.Proved.{not_added, received_but}
use Rattle.server.proofs.TakenLemmas.{received_with}
use Rattle.server.proofs.request_buffer.RequestBuffer.take.Goals as goal

pub returns-then-is_err : goal.returns-then-is_err
returns-then-is_err g c =
    record {
      received =
          received_but _ _ _ _ _ _ _ _ c.loop.invariant
          (not_added c.extend_from_slice.result _ _ _ c.extend_from_slice.ensures.items
          (sym c.is_err.ensures.value ∙ c.if-is_err.true))
          c.in-Ok.ensures.bytes.0 (λ other. other refl);
    }

pub returns-then-ne : goal.returns-then-ne
returns-then-ne g c =
    record {
      received =
          received_with c.extend_from_slice.result _ _ _ _ _ _ _ _ c.loop.invariant c.in-Ok.ensures.bytes.0
          c.extend_from_slice.ensures.items (sym c.is_err.ensures.value ∙ c.if-is_err.false);
    }
