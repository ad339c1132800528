use Rattle.std.proofs.Common.{◌≡◌, ◌⊎◌, IsTrue, [], map, take}
use Rattle.store_tables.specs.Sql.{HasCleanDisk, Survives}
use Rattle.sqlite.specs.Held.{state}
use Rattle.store_tables.specs.internal.Contents.{put_each}
use Rattle.store_tables.specs.internal.Over.{StepsBeside}
use Rattle.store_tables.specs.internal.Tables.{has_table}
use Rattle.store_tables.specs.declared.names.Version.{Version}
use Rattle.store_sql.proofs.upsert.put_all.Given as goal

abbrev pub invariant-rows : goal.invariant-rows
invariant-rows g l =
    let old = state g.S.Store l.fn.tx.conn.now in
    let now = state g.S.Store l.tx.conn.now in
    (l.tx.conn.ghost_name ≡ l.fn.tx.conn.ghost_name) × Survives old now (λ _. ⊥)
    × (HasCleanDisk now → IsTrue old.in_transaction → (version : Version)
    → IsTrue (has_table version g.T.Upsert.which) ⊎ (l.rows ≡ [])
    → StepsBeside version (put_each g.T.Upsert.tree g.T.Upsert.key (map g.T.TableRow.cells (take l.row-index l.rows))) old now)
