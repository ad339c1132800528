use Rattle.std.proofs.Common.{rules}
use Rattle.store_tables.proofs.Proved.{put_row, meta_placed}
use Rattle.store_sql.proofs.CreateLemmas.{put_known}
use Rattle.store_sql.proofs.upsert.put_meta.Goals as goal

pub returns-in-Ok-clause-put : goal.returns-in-Ok-clause-put
returns-in-Ok-clause-put g c clean inside version has =
    put_row _ _ (meta_placed c.args.row.now) _ has _ _ _ _ c.in-Ok.field-0 c.put.ensures (search rules)
    (rw c.in-Ok.is at c.execute.ensures.runs clean inside)

pub returns-in-Err-clause-known : goal.returns-in-Err-clause-known
returns-in-Err-clause-known g c clean inside version has =
    put_known version _ _ _ _ c.put.ensures has c.in-Err.error (rw c.in-Err.is at c.execute.ensures.runs clean inside)
