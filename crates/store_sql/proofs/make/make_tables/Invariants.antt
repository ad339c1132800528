use Rattle.std.proofs.Common.{◌≡◌, IsTrue}
use Rattle.store_tables.specs.Sql.{HasCleanDisk, Survives}
use Rattle.sqlite.specs.Held.{state}
use Rattle.store_sql.proofs.CreateLemmas.{Progress}
use Rattle.store_sql.proofs.make.make_tables.Given as goal

abbrev pub invariant-tables : goal.invariant-tables
invariant-tables g l =
    let old = state g.S.Store l.fn.tx.conn.now in
    let now = state g.S.Store l.tx.conn.now in
    (l.tx.conn.ghost_name ≡ l.fn.tx.conn.ghost_name) × Survives old now (λ _. ⊥)
    × (HasCleanDisk now → IsTrue old.in_transaction → Progress l.tables l.table-index old now)
