use Rattle.std.proofs.Common.{ap, ◌∙◌}
use Rattle.std.proofs.lemmas.Result.{IfOk-weaker, IfErr-weaker}
use Rattle.store_tables.specs.internal.Texts.{ids_text}
use Rattle.store_sql.proofs.SelectLemmas.{ids_number, ids_told, known, moved_to, select_reads, standing_alone}
use Rattle.store_sql.proofs.read.show_ids.Goals as goal

pub returns-clause-reads : goal.returns-clause-reads
returns-clause-reads g c =
    let alone = standing_alone g.T.Select.which in
    select_reads (g.met.T.Select.read _ alone).ids_is _
    (c.ids.ensures
    ∙ ap ids_text (moved_to g.T.Select.which (c.table.ensures ∙ g.met.T.Select.is_table) alone.tree)) _ _ _
    (λ rows. rows.items) _ c.query_all.ensures.mode c.query_all.ensures.survives c.query_all.ensures.ok
    c.query_all.ensures.err

pub returns-clause-ids : goal.returns-clause-ids
returns-clause-ids g c clean =
    IfOk-weaker c.query_all.result _ _ (λ rows shown stands.
    ids_told g.met.T.Select.is_table g.met.T.Select.read _ _ stands
    (c.ids.ensures ∙ ap ids_text c.table.ensures) rows.items shown) (c.query_all.ensures.ok clean)

pub returns-clause-known : goal.returns-clause-known
returns-clause-known g c clean =
    IfErr-weaker c.query_all.result _ _ (λ e failed stands.
    known _ _ (c.ids.ensures
    ∙ ap ids_text (moved_to g.T.Select.which (c.table.ensures ∙ g.met.T.Select.is_table) stands.tree))
    (g.met.T.Select.read _ stands).numbers.plain _ e failed) (c.query_all.ensures.err clean)

pub returns-clause-number : goal.returns-clause-number
returns-clause-number g c clean =
    IfOk-weaker c.query_all.result _ _ (λ rows shown stands.
    ids_number g.met.T.Select.is_table g.met.T.Select.read _ _ stands
    (c.ids.ensures ∙ ap ids_text c.table.ensures) rows.items shown) (c.query_all.ensures.ok clean)
