use Rattle.std.proofs.lemmas.Result.{IfErr-weaker}
use Rattle.sqlite.specs.Held.{state}
use Rattle.store_tables.proofs.Proved.{read_nothing, read_then}
use Rattle.store_sql.proofs.GroupLemmas.{blame, shown_typed, untyped_begun}
use Rattle.store_sql.proofs.SelectLemmas.{failed_read}
use Rattle.store_sql.proofs.read.read_by_first.Goals as goal

pub returns-in-Err-clause-reads : goal.returns-in-Err-clause-reads
returns-in-Err-clause-reads g c = failed_read c.failed.result _ _ c.failed.ensures.parse_rows c.in-Err.ensures.reads

pub returns-clause-reads : goal.returns-clause-reads
returns-clause-reads g c = read_then _ _ _ _ c.in-Ok.ensures.reads (read_nothing _ _)

pub returns-clause-reason_is_right : goal.returns-clause-reason_is_right
returns-clause-reason_is_right g c clean =
    IfErr-weaker c.parse_rows.result _ _ (λ e faults has.
    blame g.T.Select.table g.T.TableRow.IsTyped (state g.S.Store c.args.conn.now) _ _ e c.deref.ensures.value
    (shown_typed g.T.Select.table g.T.Select.width c.args.first.now g.T.TableRow.IsTyped _ _ _
    (c.in-Ok.ensures.told clean has)) faults) c.parse_rows.ensures.reason_is_right

pub returns-clause-untyped : goal.returns-clause-untyped
returns-clause-untyped g c clean =
    IfErr-weaker c.parse_rows.result _ _ (λ e faults wrong has.
    untyped_begun g.T.Select.table g.T.Select.width c.args.first.now g.T.TableRow.IsTyped
    (state g.S.Store c.args.conn.now) _ _ _ e c.deref.ensures.value (c.in-Ok.ensures.told clean has) faults wrong)
    c.parse_rows.ensures.reason_is_right
