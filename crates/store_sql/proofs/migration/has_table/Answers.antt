use Rattle.std.proofs.Common.{pos, subst, sym, true≢false, ◌∙◌}
use Rattle.store_tables.specs.internal.Queries.{IsSelect}
use Rattle.store_tables.proofs.Proved.{only_reading, placed_shown, reads_by, select_unchanged}
use Rattle.store_sql.proofs.SelectLemmas.{keeps_content, known, select_reads}
use Rattle.store_sql.proofs.WiderLemmas.{never_shown, refused_unchanged, table_select, text_here}
use Rattle.store_sql.proofs.migration.has_table.Goals as goal

pub returns-in-Ok-clause-reads : goal.returns-in-Ok-clause-reads
returns-in-Ok-clause-reads g c =
    rw c.in-Ok.is at
    (select_reads (table_select c.args.table) _ c.by_first.ensures _ _ _ (λ rows. rows.items) c.query_all.result
    c.query_all.ensures.mode c.query_all.ensures.survives c.query_all.ensures.ok c.query_all.ensures.err)

pub returns-in-Ok-clause-same : goal.returns-in-Ok-clause-same
returns-in-Ok-clause-same g c clean =
    select_unchanged _ (subst IsSelect (sym c.by_first.ensures) (table_select c.args.table)) _ _ _ _ (c.in-Ok.ensures.ok clean)

pub returns-in-Ok-clause-missing : goal.returns-in-Ok-clause-missing
returns-in-Ok-clause-missing g c clean has =
    absurd (never_shown c.args.table _ _ _ _ c.by_first.ensures has _ (c.in-Ok.ensures.ok clean))

pub returns-then-is_refused-clause-reads : goal.returns-then-is_refused-clause-reads
returns-then-is_refused-clause-reads g c =
    let only = only_reading _ _ _
    (select_reads (table_select c.args.table) _ c.by_first.ensures _ _ _ (λ rows. rows.items) c.query_all.result
    c.query_all.ensures.mode c.query_all.ensures.survives c.query_all.ensures.ok c.query_all.ensures.err) in
    reads_by _ _ _ only
    (λ answered clean.
    keeps_content _ _
    (refused_unchanged _ _ _ _ (subst IsSelect (sym c.by_first.ensures) (table_select c.args.table)) c.in-Err.error
    (c.in-Err.ensures.err clean)
    (λ other. true≢false (sym c.if-is_refused.true ∙ c.is_refused.ensures.known other))) (only.may clean))

pub returns-then-is_refused-clause-stands : goal.returns-then-is_refused-clause-stands
returns-then-is_refused-clause-stands g c clean has =
    let other = known _ _ (c.by_first.ensures ∙ text_here c.args.table has.tree)
    ((placed_shown _ c.args.table has).some (pos 0)).plain _
    c.in-Err.error (c.in-Err.ensures.err clean) in
    absurd (true≢false (sym c.if-is_refused.true ∙ c.is_refused.ensures.known other))

pub returns-then-is_refused-clause-same : goal.returns-then-is_refused-clause-same
returns-then-is_refused-clause-same g c clean =
    refused_unchanged _ _ _ _ (subst IsSelect (sym c.by_first.ensures) (table_select c.args.table)) c.in-Err.error
    (c.in-Err.ensures.err clean) (λ other. true≢false (sym c.if-is_refused.true ∙ c.is_refused.ensures.known other))

pub returns-clause-reads : goal.returns-clause-reads
returns-clause-reads g c =
    rw c.in-Err.is at
    (select_reads (table_select c.args.table) _ c.by_first.ensures _ _ _ (λ rows. rows.items) c.query_all.result
    c.query_all.ensures.mode c.query_all.ensures.survives c.query_all.ensures.ok c.query_all.ensures.err)
