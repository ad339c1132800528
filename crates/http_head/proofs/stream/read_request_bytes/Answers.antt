use Rattle.std.proofs.Common.{inr, refl}
use Rattle.http_head.proofs.IntakeLemmas.{intake_more}
use Rattle.http_head.proofs.StreamLemmas.{taken_more, taken_still}
use Rattle.http_head.proofs.stream.read_request_bytes.Goals as goal
use Rattle.http_head.proofs.stream.read_request_bytes.Goals.{in-Ok+else-n-eq0+in_ok-extend_from_slice-in-Ok+else-is_enough-2}
use Rattle.http_head.proofs.stream.read_request_bytes.Goals.{in-Err+else-not-is_interrupted}

pub is_enough-requires-in-Ok : goal.is_enough-requires-in-Ok
is_enough-requires-in-Ok g c =
    rw (c.deref-in-Ok.ensures.value, c.in_ok-extend_from_slice-in-Ok.ensures.items)
    (intake_more c.loop.intake c.loop.bytes.items _ c.loop.invariant.looked)

pub returns-then-is_enough-2-clause-enough : goal.returns-then-is_enough-2-clause-enough
returns-then-is_enough-2-clause-enough g c =
    inr (rw c.deref-in-Ok.ensures.value at (c.is_enough-in-Ok.ensures.enough c.if-is_enough-2.true))

pub loop-preserved : goal.loop-preserved
loop-preserved g c =
    elim c.match-read.branch [
      | in-Ok+else-n-eq0+in_ok-extend_from_slice-in-Ok+else-is_enough-2 w ↦ record {
        taken = taken_more _ _ _ _ _ _ _ c.loop.invariant.taken
            (rw w.bytes-is w.in_ok-extend_from_slice-in-Ok.ensures.items) w.in-Ok.ensures.bytes.0;
        looked = rw (w.intake-is, w.bytes-is) (rw w.deref-in-Ok.ensures.value at w.is_enough-in-Ok.ensures.still);
      }
      | in-Err+else-not-is_interrupted w ↦ record {
        taken = taken_still _ _ _ _ _ _ c.loop.invariant.taken (rw w.bytes-is refl) w.in-Err.ensures.bytes;
        looked = rw (w.intake-is, w.bytes-is) c.loop.invariant.looked;
      }
    ]
