use Rattle.std.proofs.Common.{map, subst}
use Rattle.store_tables.specs.internal.Cells.{meta_cells}
use Rattle.store_tables.specs.Changes.{HaveSame}
use Rattle.store_sql.proofs.rows.read_meta.Goals as goal

pub returns-in-Some-clause-rows : goal.returns-in-Some-clause-rows
returns-in-Some-clause-rows g c clean content k =
    subst (λ rows. HaveSame (map meta_cells rows) (content 0)) c.in-Some.ensures.0
    (c.in-Ok.ensures.same clean content k)
