use Rattle.std.proofs.Common.{[], true, refl}
use Rattle.std.proofs.KnownBytes.{Appends-nil}
use Rattle.std.proofs.lemmas.List.{take_all}
use Rattle.sqlite.specs.Held.{state}
use Rattle.store_tables.proofs.Proved.{read_nothing, reads_on}
use Rattle.club_answers.proofs.CallLemmas.{between}
use Rattle.club_answers.proofs.RecordLemmas.{more_begun, more_written, not_first, so_far}
use Rattle.club_answers.proofs.records.write_records.Goals as goal

pub loop-id-init : goal.loop-id-init
loop-id-init g c = record {
  first = refl;
  reads = read_nothing true (state g.S.Store c.args.conn.now);
  written = λ clean s is_club k. ([], refl, Appends-nil (g.W.Write.contents c.args.writer.now));
}

pub loop-id-preserved : goal.loop-id-preserved
loop-id-preserved g c =
    record {
      first = not_first c.args.ids.now c.loop-id.id-index c.loop-id-test.true;
      reads = reads_on c.loop-id.invariant.reads c.in-Ok.ensures.reads;
      written = λ clean s is_club k.
          let (early, kept) = between s c.loop-id.invariant.reads c.write_record_after.ensures.reads clean k in
          more_written s c.args.kind c.args.ids.now c.loop-id.id-index _ c.loop-id.is_first _ _ _ _
          c.loop-id-test.true c.loop-id.invariant.first c.opening.ensures
          (c.loop-id.invariant.written early s is_club k)
          (c.in-Ok.ensures.written clean s is_club kept);
    }

pub returns-in-Err-clause-reads : goal.returns-in-Err-clause-reads
returns-in-Err-clause-reads g c = reads_on c.loop-id.invariant.reads c.in-Err.ensures.reads

pub returns-in-Err-clause-begun : goal.returns-in-Err-clause-begun
returns-in-Err-clause-begun g c clean s is_club k =
    let (early, kept) = between s c.loop-id.invariant.reads c.write_record_after.ensures.reads clean k in
    more_begun s c.args.kind c.args.ids.now c.loop-id.id-index _ c.loop-id.is_first _ _ _ _
    c.loop-id-test.true c.loop-id.invariant.first c.opening.ensures
    (c.loop-id.invariant.written early s is_club k)
    (c.write_record_after.ensures.begun clean s is_club kept)

pub returns-clause-written : goal.returns-clause-written
returns-clause-written g c clean s is_club k =
    rw (take_all c.loop-id.id-index c.args.ids.now c.loop-id-test.false)
    at (c.loop-id.invariant.written clean s is_club k)

pub returns-clause-begun : goal.returns-clause-begun
returns-clause-begun g c clean s is_club k =
    so_far s c.args.kind c.args.ids.now c.loop-id.id-index _ _ (c.loop-id.invariant.written clean s is_club k)
