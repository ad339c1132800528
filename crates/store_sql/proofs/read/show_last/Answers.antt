use Rattle.std.proofs.Common.{◌≡◌, ap, ◌∙◌, rules, Ok, Err}
use Rattle.sqlite.specs.declared.error.Error.TheVariants.{QueryReturnedNoRows}
use Rattle.store_tables.specs.internal.Texts.{last_text}
use Rattle.store_tables.proofs.Proved.{read_failed}
use Rattle.store_sql.proofs.SelectLemmas.{last_found, moved_to, none_found, none_shown, row_reads, standing_alone}
use Rattle.store_sql.proofs.read.show_last.Goals as goal

pub returns-in-Ok-clause-reads : goal.returns-in-Ok-clause-reads
returns-in-Ok-clause-reads g c =
    let alone = standing_alone g.T.Select.which in
    row_reads (g.met.T.Select.read _ alone).last_is _
    (c.last.ensures
    ∙ ap last_text (moved_to g.T.Select.which (c.table.ensures ∙ g.met.T.Select.is_table) alone.tree)) _ _ _
    (Ok c.in-Ok.row) c.in-Ok.ensures.mode c.in-Ok.ensures.survives c.in-Ok.ensures.row

pub returns-in-Ok-clause-last : goal.returns-in-Ok-clause-last
returns-in-Ok-clause-last g c clean content k =
    last_found g.met.T.Select.is_table g.met.T.Select.read _ _ g.met.T.Select.is_there content k (c.last.ensures ∙ ap last_text c.table.ensures)
    c.in-Ok.ensures.survives clean c.in-Ok.row (c.in-Ok.ensures.row clean)

pub returns-then-has_no_row-clause-reads : goal.returns-then-has_no_row-clause-reads
returns-then-has_no_row-clause-reads g c =
    let none : c.in-Err.error ≡ QueryReturnedNoRows = search rules in
    let alone = standing_alone g.T.Select.which in
    row_reads (g.met.T.Select.read _ alone).last_is _
    (c.last.ensures
    ∙ ap last_text (moved_to g.T.Select.which (c.table.ensures ∙ g.met.T.Select.is_table) alone.tree)) _ _ _
    (Err QueryReturnedNoRows) c.in-Err.ensures.mode c.in-Err.ensures.survives (rw none at c.in-Err.ensures.row)

pub returns-then-has_no_row-clause-last : goal.returns-then-has_no_row-clause-last
returns-then-has_no_row-clause-last g c clean content k =
    let none : c.in-Err.error ≡ QueryReturnedNoRows = search rules in
    let alone = standing_alone g.T.Select.which in
    none_found g.met.T.Select.is_table g.met.T.Select.read _ _ g.met.T.Select.is_there content k (c.last.ensures ∙ ap last_text c.table.ensures)
    c.in-Err.ensures.survives clean
    (none_shown (g.met.T.Select.read _ alone).last_is _
    (c.last.ensures
    ∙ ap last_text (moved_to g.T.Select.which (c.table.ensures ∙ g.met.T.Select.is_table) alone.tree)) _ _ _
    (rw none at c.in-Err.ensures.row clean))

pub returns-else-has_no_row-clause-reads : goal.returns-else-has_no_row-clause-reads
returns-else-has_no_row-clause-reads g c =
    let alone = standing_alone g.T.Select.which in
    read_failed _ _ _ (row_reads (g.met.T.Select.read _ alone).last_is _
    (c.last.ensures
    ∙ ap last_text (moved_to g.T.Select.which (c.table.ensures ∙ g.met.T.Select.is_table) alone.tree)) _ _ _
    (Err c.in-Err.error) c.in-Err.ensures.mode c.in-Err.ensures.survives c.in-Err.ensures.row)
