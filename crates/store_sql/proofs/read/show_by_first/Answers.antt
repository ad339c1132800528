use Rattle.std.proofs.Common.{rules, ap, ◌∙◌}
use Rattle.std.proofs.lemmas.Result.{IfOk-weaker, IfErr-weaker}
use Rattle.store_tables.specs.internal.Texts.{by_first_text}
use Rattle.store_sql.proofs.SelectLemmas.{group_told, known, moved_to, select_reads, some_found, standing_alone}
use Rattle.store_sql.proofs.read.show_by_first.Goals as goal

pub returns-clause-reads : goal.returns-clause-reads
returns-clause-reads g c =
    let alone = standing_alone g.T.Select.which in
    select_reads (g.met.T.Select.read _ alone).group_is _
    (c.by_first.ensures
    ∙ ap by_first_text (moved_to g.T.Select.which (c.table.ensures ∙ g.met.T.Select.is_table) alone.tree)) _ _ _
    (λ rows. rows.items) _ c.query_all.ensures.mode c.query_all.ensures.survives c.query_all.ensures.ok
    c.query_all.ensures.err

pub returns-clause-told : goal.returns-clause-told
returns-clause-told g c clean =
    IfOk-weaker c.query_all.result _ _ (λ rows shown stands.
    group_told g.met.T.Select.is_table g.met.T.Select.read _ _ stands
    (c.by_first.ensures ∙ ap by_first_text c.table.ensures) c.args.first.now _ (search rules) rows.items shown)
    (c.query_all.ensures.ok clean)

pub returns-clause-known : goal.returns-clause-known
returns-clause-known g c clean =
    IfErr-weaker c.query_all.result _ _ (λ e failed stands.
    known _ _ (c.by_first.ensures
    ∙ ap by_first_text (moved_to g.T.Select.which (c.table.ensures ∙ g.met.T.Select.is_table) stands.tree))
    ((g.met.T.Select.read _ stands).some c.args.first.now).plain _ e failed) (c.query_all.ensures.err clean)

pub returns-clause-rows : goal.returns-clause-rows
returns-clause-rows g c clean =
    IfOk-weaker c.query_all.result _ _ (λ rows shown content k.
    some_found g.met.T.Select.is_table g.met.T.Select.read _ _ g.met.T.Select.is_there content k
    (c.by_first.ensures ∙ ap by_first_text c.table.ensures) c.args.first.now _ (search rules)
    c.query_all.ensures.survives clean rows.items shown) (c.query_all.ensures.ok clean)
