use Rattle.std.proofs.Common.{arith, refl, true}
use Rattle.sqlite.specs.Held.{state}
use Rattle.sqlite.specs.State.{HasCleanDisk}
use Rattle.store_tables.proofs.Proved.{read_then, still_rows}
use Rattle.store_sql.proofs.rows.read_rulings.Goals as goal

pub returns-clause-rows : goal.returns-clause-rows
returns-clause-rows g c clean content k =
    let s0 = state g.S.Store c.args.conn.now in
    let s1 = state g.S.Store c.list.new.conn in
    let s2 = state g.S.Store c.list-2.new.conn in
    let clean2 : HasCleanDisk s2 = omega (arith, c.list-3.ensures.reads.clean, clean) in
    let clean1 : HasCleanDisk s1 = omega (arith, c.list-2.ensures.reads.clean, clean2) in
    let k1 = still_rows s0 s1 (c.in-Ok.ensures.reads.kept refl clean1) content k in
    let k2 = still_rows s1 s2 (c.in-Ok-list.ensures.reads.kept refl clean2) content k1 in
    record {
      keys = c.in-Ok.ensures.same clean1 content k;
      rulings = c.in-Ok-list.ensures.same clean2 content k1;
      closings = c.in-Ok-list-2.ensures.same clean content k2;
    }

pub returns-clause-reads : goal.returns-clause-reads
returns-clause-reads g c =
    let s0 = state g.S.Store c.args.conn.now in
    let s1 = state g.S.Store c.list.new.conn in
    let s2 = state g.S.Store c.list-2.new.conn in
    let s3 = state g.S.Store c.list-3.new.conn in
    read_then true s0 s2 s3 (read_then true s0 s1 s2 c.in-Ok.ensures.reads c.in-Ok-list.ensures.reads)
    c.in-Ok-list-2.ensures.reads
