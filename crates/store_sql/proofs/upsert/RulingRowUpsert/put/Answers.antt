use Rattle.std.proofs.Common.{rules, string_bytes}
use Rattle.store_tables.proofs.Proved.{put_row, ruling_placed}
use Rattle.store_sql.proofs.BoundLemmas.{cons_is, maybe_text}
use Rattle.store_sql.proofs.upsert.RulingRowUpsert.put.Goals as goal

pub returns-clause-put : goal.returns-clause-put
returns-clause-put g c clean inside version has =
    let row = c.args.self.now in
    let result = maybe_text string_bytes row.result in
    let beneath = maybe_text string_bytes row.beneath in
    let beneath_result = maybe_text string_bytes row.beneath_result in
    put_row _ _ (ruling_placed row) _ has _ _ _ _ _ c.put.ensures (search (rules, cons_is) depth 16 fits 2000)
    (c.in_ok-execute.ensures.runs clean inside)
