use Rattle.std.proofs.Common.{◌≡◌, rules, map, IsTrue}
use Rattle.sqlite.specs.Held.{state}
use Rattle.store_tables.specs.Changes.{HaveSame}
use Rattle.store_tables.specs.Contents.{Content}
use Rattle.store_tables.specs.Over.{HasRowsIn}
use Rattle.store_tables.proofs.Proved.{read_nothing, read_then}
use Rattle.store_sql.proofs.SelectLemmas.{carried, same_rows, told_rows}
use Rattle.store_sql.specs.internal.Read.{BeginWithPlaces}
use Rattle.store_sql.proofs.read.list.Goals as goal

pub returns-in-Ok-clause-reads : goal.returns-in-Ok-clause-reads
returns-in-Ok-clause-reads g c = read_then _ _ _ _ c.in-Ok.ensures.reads (read_nothing _ _)

pub returns-in-Ok-clause-rows : goal.returns-in-Ok-clause-rows
returns-in-Ok-clause-rows g c clean =
    carried c.parse_shown_rows.result (λ found. map g.T.TableRow.cells found.items) c.in-Ok.shown.items
    (λ l. IsTrue g.T.Select.has_id → (content : Content) → HasRowsIn g.T.Select.since content (state g.S.Store c.args.conn.now)
    → BeginWithPlaces (content g.T.Select.table.tree) → l ≡ content g.T.Select.table.tree) (search rules)
    (λ id content k places.
    told_rows g.met.T.Select.is_table g.met.T.Select.read _ _ g.met.T.Select.is_there content k (g.met.T.Select.numbered id) _
    (c.in-Ok.ensures.rows clean) places)

pub returns-in-Ok-clause-same : goal.returns-in-Ok-clause-same
returns-in-Ok-clause-same g c clean =
    carried c.parse_shown_rows.result (λ found. map g.T.TableRow.cells found.items) c.in-Ok.shown.items
    (λ l. (content : Content) → HasRowsIn g.T.Select.since content (state g.S.Store c.args.conn.now)
    → HaveSame l (content g.T.Select.table.tree)) (search rules) (λ content k.
    same_rows g.met.T.Select.is_table g.met.T.Select.read _ _ g.met.T.Select.is_there content k _ (c.in-Ok.ensures.rows clean))
