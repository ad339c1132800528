use Rattle.std.proofs.Common.{rules, string_bytes}
use Rattle.store_tables.proofs.Proved.{put_row, game_placed}
use Rattle.store_sql.proofs.BoundLemmas.{cons_is, maybe_int, maybe_text}
use Rattle.store_sql.proofs.upsert.GameTableRowUpsert.put.Goals as goal

pub returns-clause-put : goal.returns-clause-put
returns-clause-put g c clean inside version has =
    let row = c.args.self.now in
    let key = maybe_text string_bytes row.key in
    let offer_side = maybe_int row.offer_side in
    let offer_ply = maybe_int row.offer_ply in
    let end = maybe_text string_bytes row.end in
    let result = maybe_text string_bytes row.result in
    put_row _ _ (game_placed row) _ has _ _ _ _ _ c.put.ensures (search (rules, cons_is) depth 24 fits 2000)
    (c.in_ok-execute.ensures.runs clean inside)
