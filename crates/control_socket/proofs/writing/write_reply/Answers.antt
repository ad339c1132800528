use Rattle.std.proofs.Common.{ℕ, arith, length-drop}
use Rattle.std.proofs.lemmas.List.{length-take}
use Rattle.http_head.proofs.Proved.{appends_slice, appends_still}
use Rattle.control_socket.proofs.writing.write_reply.Goals as goal
use Rattle.control_socket.proofs.writing.write_reply.Goals.{in-Ok+else-n-eq0, in-Err+else-not-is_interrupted}

pub loop-preserved : goal.loop-preserved
loop-preserved g c =
    elim c.match-write.branch [
      | in-Ok+else-n-eq0 w ↦ record {
        within =
            omega (arith, w.at-is, w.in-Ok.ensures, c.loop.invariant.within, length-take {A = ℕ}, length-drop {A = ℕ});
        written = appends_slice _ _ _ c.args.bytes.now c.loop.at w.in-Ok.n c.match-write.at w.at-is
            c.loop.invariant.written w.in-Ok.ensures.bytes;
      }
      | in-Err+else-not-is_interrupted w ↦ record {
        within = omega (arith, w.at-is, c.loop.invariant.within);
        written = appends_still _ _ _ c.args.bytes.now c.loop.at c.match-write.at w.at-is c.loop.invariant.written
            w.in-Err.ensures.bytes;
      }
    ]
