use Rattle.std.proofs.Common.{inl, inr, refl}
use Rattle.sqlite.specs.Held.{state}
use Rattle.store_tables.specs.internal.Changed.{changed}
use Rattle.store_tables.specs.internal.Contents.{opening}
use Rattle.store_tables.proofs.Proved.{exactly_same, leaves_same}
use Rattle.store_sql.proofs.CopyLemmas.{copied, copied_fits}
use Rattle.store_sql.proofs.copy.copy_tables.Goals as goal

pub returns-in-Ok-create_with_rows-clause-stored : goal.returns-in-Ok-create_with_rows-clause-stored
returns-in-Ok-create_with_rows-clause-stored g c read clean served content k empty =
    let version = c.args.version in
    let all = c.in-Ok.ensures.rows read served content k in
    let same = copied version served c.in-Ok.rows content (state g.S.Store c.args.club.now) k all in
    exactly_same version (changed version c.in-Ok.rows (opening version)) content (state g.T.Store c.create_with_rows.new.conn) same
    ((rw c.in-Ok-create_with_rows.is at c.create_with_rows.ensures.stored clean)
    (copied_fits version served c.in-Ok.rows content all) empty)

pub returns-clause-fault : goal.returns-clause-fault
returns-clause-fault g c read clean served content k empty db left =
    let version = c.args.version in
    let all = c.in-Ok.ensures.rows read served content k in
    let same = copied version served c.in-Ok.rows content (state g.S.Store c.args.club.now) k all in
    elim ((rw c.in-Err-create_with_rows.is at c.create_with_rows.ensures.fault clean)
    (copied_fits version served c.in-Ok.rows content all) empty db left) [
      | inl none ↦ inl none
      | inr whole ↦ inr (leaves_same version (changed version c.in-Ok.rows (opening version)) content db same whole)
    ]

pub returns-clause-unchanged : goal.returns-clause-unchanged
returns-clause-unchanged g c read is = c.in-Ok.ensures.reads.kept refl read
