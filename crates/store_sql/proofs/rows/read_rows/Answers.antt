use Rattle.std.proofs.Common.{arith, refl, true}
use Rattle.sqlite.specs.Held.{state}
use Rattle.sqlite.specs.State.{HasCleanDisk}
use Rattle.store_tables.proofs.Proved.{read_then, served_rows, still_rows}
use Rattle.store_sql.proofs.rows.read_rows.Goals as goal

pub returns-in-Ok-read_rulings_in-clause-rows : goal.returns-in-Ok-read_rulings_in-clause-rows
returns-in-Ok-read_rulings_in-clause-rows g c clean served content k =
    let version = c.args.version in
    let s0 = state g.S.Store c.args.conn.now in
    let s1 = state g.S.Store c.read_meta.new.conn in
    let s2 = state g.S.Store c.read_people.new.conn in
    let s3 = state g.S.Store c.read_play.new.conn in
    let clean3 : HasCleanDisk s3 = omega (arith, c.read_rulings_in.ensures.reads.clean, clean) in
    let clean2 : HasCleanDisk s2 = omega (arith, c.read_play.ensures.reads.clean, clean3) in
    let clean1 : HasCleanDisk s1 = omega (arith, c.read_people.ensures.reads.clean, clean2) in
    let k1 = still_rows s0 s1 (c.in-Ok.ensures.reads.kept refl clean1) content k in
    let k2 = still_rows s1 s2 (c.in-Ok-read_people.ensures.reads.kept refl clean2) content k1 in
    let k3 = still_rows s2 s3 (c.in-Ok-read_play.ensures.reads.kept refl clean3) content k2 in
    c.join_rows.ensures version c.in-Ok.ensures.first.0 c.in-Ok.ensures.first.1 content
    (c.in-Ok.ensures.rows clean1 content (served_rows version served content s0 k))
    (c.in-Ok-read_people.ensures.rows clean2 content (served_rows version served content s1 k1))
    (c.in-Ok-read_play.ensures.rows clean3 content (served_rows version served content s2 k2))
    (c.in-Ok-read_rulings_in.ensures.rows clean content k3)

pub returns-in-Ok-read_rulings_in-clause-reads : goal.returns-in-Ok-read_rulings_in-clause-reads
returns-in-Ok-read_rulings_in-clause-reads g c =
    let s0 = state g.S.Store c.args.conn.now in
    let s1 = state g.S.Store c.read_meta.new.conn in
    let s2 = state g.S.Store c.read_people.new.conn in
    let s3 = state g.S.Store c.read_play.new.conn in
    let s4 = state g.S.Store c.read_rulings_in.new.conn in
    read_then true s0 s3 s4
    (read_then true s0 s2 s3 (read_then true s0 s1 s2 c.in-Ok.ensures.reads c.in-Ok-read_people.ensures.reads)
    c.in-Ok-read_play.ensures.reads) c.in-Ok-read_rulings_in.ensures.reads
