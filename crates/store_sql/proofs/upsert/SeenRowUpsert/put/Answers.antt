use Rattle.std.proofs.Common.{rules}
use Rattle.store_tables.proofs.Proved.{put_row, seen_placed}
use Rattle.store_sql.proofs.upsert.SeenRowUpsert.put.Goals as goal

pub returns-clause-put : goal.returns-clause-put
returns-clause-put g c clean inside version has =
    put_row _ _ (seen_placed c.args.self.now) _ has _ _ _ _ _ c.put.ensures (search rules)
    (c.in_ok-execute.ensures.runs clean inside)
