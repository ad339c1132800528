use Rattle.std.proofs.Common.{inl, inr, refl}
use Rattle.control_socket.proofs.control_requests.decode_operation.Goals as goal

pub returns-in-Err : goal.returns-in-Err
returns-in-Err c = inr (c.in-Err.ensures.cases.0, refl)

pub returns : goal.returns
returns c =
    let parts = (rw (c.as_slice.ensures.value, c.in_ok-parts.ensures, c.in-Ok.ensures.cases.0)
    at c.in_ok-words.ensures.ok) in
    inl (c.in_ok-words.words, parts, c.in_ok-errand.ensures)
