use Rattle.std.proofs.Common.{map, refl, sym, ◌∙◌}
use Rattle.store_tables.specs.Cells.{event_cells}
use Rattle.club_rows.specs.Club.{tables}
use Rattle.club_answers.proofs.CrossTableLemmas.{event_some, event_none}
use Rattle.club_changes.proofs.Proved.{first_mapped, none_mapped}
use Rattle.club_answers.proofs.cross_table.event_named.Goals as goal

pub returns-in_ok-event_in-in-Some-clause-found : goal.returns-in_ok-event_in-in-Some-clause-found
returns-in_ok-event_in-in-Some-clause-found g c clean s is_club k =
    let rows = c.in_ok-find.field-0.items in
    event_some s is_club c.args.name.now (map event_cells rows) (event_cells c.in-Some.row)
    c.in_ok-event_in-in-Some.field-0 (c.in_ok-find.ensures.rows clean (tables s) k)
    (first_mapped event_cells rows c.in-Some.row (sym c.first.ensures ∙ c.in-Some.is))
    c.in_ok-event_in-in-Some.ensures

pub returns-in-None-clause-found : goal.returns-in-None-clause-found
returns-in-None-clause-found g c clean s is_club k =
    let rows = c.in_ok-find.field-0.items in
    event_none s is_club c.args.name.now (map event_cells rows) _ (c.in_ok-find.ensures.rows clean (tables s) k)
    (none_mapped event_cells rows (sym c.first.ensures ∙ c.in-None.is)) refl
