use Rattle.std.proofs.Common.{map, sym, ◌∙◌}
use Rattle.store_tables.specs.Cells.{game_cells}
use Rattle.club_rows.specs.Club.{tables}
use Rattle.club_changes.proofs.Proved.{under_some, under_none, first_mapped, none_mapped}
use Rattle.club_reads.proofs.games.game_under.Goals as goal

pub returns-in_ok-ids_in-in-Some-clause-found : goal.returns-in_ok-ids_in-in-Some-clause-found
returns-in_ok-ids_in-in-Some-clause-found g c clean s is_club k =
    let rows = c.in_ok-find.field-0.items in
    under_some s is_club c.args.key.now (map game_cells rows) (game_cells c.in-Some.row)
    c.in_ok-ids_in-in-Some.field-0 (c.in_ok-find.ensures.rows clean (tables s) k)
    (first_mapped game_cells rows c.in-Some.row (sym c.first.ensures ∙ c.in-Some.is))
    (c.in_ok-ids_in-in-Some.ensures s)

pub returns-in-None-clause-found : goal.returns-in-None-clause-found
returns-in-None-clause-found g c clean s is_club k =
    let rows = c.in_ok-find.field-0.items in
    sym
    (under_none s is_club c.args.key.now (map game_cells rows) (c.in_ok-find.ensures.rows clean (tables s) k)
    (none_mapped game_cells rows (sym c.first.ensures ∙ c.in-None.is)))
