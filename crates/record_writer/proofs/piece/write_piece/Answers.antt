use Rattle.std.proofs.Common.{◌≡◌, ◌++◌, ap, sym, take, subst}
use Rattle.std.proofs.KnownBytes.{Appends-trans}
use Rattle.record_writer.proofs.SliceLemmas.{appends_kept, takes_slice}
use Rattle.record_writer.proofs.piece.write_piece.Goals.{in-Ok, in-Err+else-ne}
use Rattle.record_writer.proofs.piece.write_piece.Goals as goal

pub writes-preserved : goal.writes-preserved
writes-preserved g c =
    let all = c.args.bytes.now in
    let rest = c.writes.rest.now in
    let it = c.writes.invariant in
    elim c.match-write.branch [
      | in-Ok w ↦ (
        it.0 ++ take w.in-Ok.written rest,
        subst (λ l. (it.0 ++ take w.in-Ok.written rest) ++ l ≡ all) (sym (ap (λ r. r.now) w.rest-is))
            (takes_slice all it.0 rest w.in-Ok.written it.1),
        Appends-trans _ _ _ _ _ it.2 w.in-Ok.ensures.bytes,
      )
      | in-Err+else-ne w ↦ (
        it.0,
        subst (λ l. it.0 ++ l ≡ all) (sym (ap (λ r. r.now) w.rest-is)) it.1,
        appends_kept _ _ _ _ it.2 w.in-Err.ensures.bytes,
      )
    ]
