use Rattle.std.proofs.Common.{[], refl, sym, ◌∙◌}
use Rattle.store_tables.specs.Tables.{schema_number}
use Rattle.club_rows.specs.Tables.{meta_row, version_of}
use Rattle.store_tables.specs.internal.Cells.{meta_cells}
use Rattle.club_rows.specs.Club.{tables}
use Rattle.club_changes.proofs.Proved.{first_is}
use Rattle.club_reads.proofs.BeginLemmas.{meta_begins}
use Rattle.club_reads.proofs.meta.last_moment.Goals as goal

pub returns-in_ok-last_in-in-Some-clause-last : goal.returns-in_ok-last_in-in-Some-clause-last
returns-in_ok-last_in-in-Some-clause-last g c clean s k =
    let schema = schema_number (version_of s) in
    c.in_ok-last_in-in-Some.ensures schema s.last
    (first_is meta_cells c.in_ok-list.field-0.items c.in-Some.row (meta_row schema s.last) []
    (sym c.first.ensures ∙ c.in-Some.is) (c.in_ok-list.ensures.rows clean refl (tables s) k (meta_begins s)))
