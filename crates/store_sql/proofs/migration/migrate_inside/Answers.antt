use Rattle.std.proofs.Common.{arith, inl, ap, ◌∙◌, sym, subst, take, drop}
use Rattle.sqlite.specs.Held.{state}
use Rattle.store_tables.specs.Migrations.{added_tables}
use Rattle.store_tables.specs.Names.{in_order}
use Rattle.store_tables.specs.internal.Room.{MakesHere}
use Rattle.store_tables.proofs.Proved.{widens}
use Rattle.store_sql.proofs.CommitLemmas.{has_meta, served_has}
use Rattle.store_sql.proofs.migration.migrate_inside.Goals as goal

pub returns-clause-widened : goal.returns-clause-widened
returns-clause-widened g c clean inside served =
    let from = c.args.from in
    let to = c.args.to in
    let made = c.in_ok-make_tables.ensures.made (omega arith) inside in
    let one : MakesHere (added_tables from to) (state g.S.Store c.args.tx.now.conn.now)
    (state g.S.Store c.make_tables.new.tx.conn.now) =
    rw (c.later_tables.ensures, c.table_count.ensures, c.table_count-2.ensures) at made in
    let two = c.in_ok-put_all.ensures.put (omega arith) made.inside to (inl (served_has to served).event_rules) in
    let three = c.in_ok-put.ensures.put clean two.inside to (has_meta to) in
    record {
      holds = λ before first after last migrates club content free k.
          let takes = migrates.clear in
          three.holds after last takes _
          (two.holds after last takes content
          (widens from to _ _ one before first after last migrates club content free k));
      committed = three.committed ∙ two.committed ∙ made.committed;
      inside = three.inside;
    }
