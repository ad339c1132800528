use Rattle.std.proofs.Common.{drop, add-one, arith, take-append-drop}
use Rattle.std.proofs.lemmas.List.{take_all}
use Rattle.store_tables.proofs.Proved.{clean_before, rows_after, reads_on, ended}
use Rattle.club_answers.proofs.exported.write_plies.Goals as goal

pub loop-ply-preserved : goal.loop-ply-preserved
loop-ply-preserved g c =
    record {
      under_way = c.in_ok-write_row.ensures.in_progress;
      reads = reads_on c.loop-ply.invariant.reads c.in_ok-row.ensures.reads;
      written = λ clean content terms game title before k tells legal count first.
          let early = clean_before c.row_of.ensures.reads clean in
          rw (add-one c.loop-ply.ply)
          (c.in_ok-write_row.ensures.written terms c.args.stored.now.id c.loop-ply.ply game title before legal
          (omega (arith, c.loop-ply-test.true, count))
          (rw (add-one c.loop-ply.ply) at (c.in_ok-row.ensures.found clean content terms game
          (rows_after c.loop-ply.invariant.reads early content k) tells))
          (c.loop-ply.invariant.written early content terms game title before k tells legal count first));
    }

pub returns-in_err-row-clause-begun : goal.returns-in_err-row-clause-begun
returns-in_err-row-clause-begun g c clean content terms game title before k tells legal count first =
    rw (take-append-drop c.loop-ply.ply game.entries) at (c.written_entries_begin_games.ensures title _
    (drop c.loop-ply.ply game.entries) before _ _ (c.loop-ply.invariant.written
    (clean_before c.row_of.ensures.reads clean) content terms game title before k tells legal count first))

pub returns-in_err-write_row-clause-begun : goal.returns-in_err-write_row-clause-begun
returns-in_err-write_row-clause-begun g c clean content terms game title before k tells legal count first =
    let early = clean_before c.row_of.ensures.reads clean in
    c.write_row.ensures.begun terms c.args.stored.now.id c.loop-ply.ply game title before legal
    (omega (arith, c.loop-ply-test.true, count))
    (rw (add-one c.loop-ply.ply) at (c.in_ok-row.ensures.found clean content terms game
    (rows_after c.loop-ply.invariant.reads early content k) tells))
    (c.loop-ply.invariant.written early content terms game title before k tells legal count first)

pub returns-in_err-write_row-clause-reads : goal.returns-in_err-write_row-clause-reads
returns-in_err-write_row-clause-reads g c = ended _ (reads_on c.loop-ply.invariant.reads c.in_ok-row.ensures.reads)

pub returns-clause-written : goal.returns-clause-written
returns-clause-written g c clean content terms game title before k tells legal count first =
    rw (take_all c.loop-ply.ply game.entries (omega (arith, c.loop-ply-test.false, count))) at (
    c.loop-ply.invariant.written clean content terms game title before k tells legal count first)

pub returns-clause-begun : goal.returns-clause-begun
returns-clause-begun g c clean content terms game title before k tells legal count first =
    rw (take-append-drop c.loop-ply.ply game.entries) at (c.written_entries_begin_games.ensures title _
    (drop c.loop-ply.ply game.entries) before _ _
    (c.loop-ply.invariant.written clean content terms game title before k tells legal count first))
