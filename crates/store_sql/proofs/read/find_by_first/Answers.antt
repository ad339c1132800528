use Rattle.std.proofs.Common.{[], ◌∷◌, rules, map}
use Rattle.std.specs.List.Sorted.{IsSorted}
use Rattle.sqlite.specs.Held.{state}
use Rattle.sqlite.specs.declared.types.Value.TheVariants.{Int}
use Rattle.store_tables.specs.Contents.{Content}
use Rattle.store_tables.specs.internal.Contents.{AreThose}
use Rattle.store_tables.specs.Over.{HasRowsIn}
use Rattle.store_tables.specs.internal.Queries.{by_others}
use Rattle.store_tables.proofs.Proved.{read_nothing, read_then}
use Rattle.store_sql.proofs.SelectLemmas.{carried}
use Rattle.store_sql.proofs.read.find_by_first.Goals as goal

pub returns-in-Ok-clause-reads : goal.returns-in-Ok-clause-reads
returns-in-Ok-clause-reads g c = read_then _ _ _ _ c.in-Ok.ensures.reads (read_nothing _ _)

pub returns-in-Ok-clause-rows : goal.returns-in-Ok-clause-rows
returns-in-Ok-clause-rows g c clean =
    carried c.parse_shown_rows.result (λ found. map g.T.TableRow.cells found.items) c.in-Ok.shown.items
    (λ l. (content : Content) → HasRowsIn g.T.Select.since content (state g.S.Store c.args.conn.now)
    → AreThose (0 ∷ []) (Int c.args.first.now ∷ []) (content g.T.Select.table.tree) l
    × IsSorted (by_others g.T.Select.width) l) (search rules) (c.in-Ok.ensures.rows clean)
