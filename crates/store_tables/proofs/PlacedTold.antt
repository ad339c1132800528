-- What is told of a table where it stands is told of the club's table.
use Rattle.std.proofs.Common.{◌≡◌, ℕ, List, map, refl, ap, subst, ◌∙◌, IsPermutation}
use Rattle.store_tables.specs.Sql.{Row, State}
use Rattle.store_tables.specs.Content.{cells}
use Rattle.store_tables.specs.Placed.{HasTableAt, club_trees}
use Rattle.store_tables.specs.internal.Reading.{ReturnsRows}
use Rattle.store_tables.specs.Tables.{made_as, standing}
use Rattle.store_tables.specs.declared.names.Table as of_club
use Rattle.store_tables.proofs.OverLemmas.{cells_are, keeps_moved, trees_here}

module _ (table : of_club.Table) (old new : State) (stands : HasTableAt old.now.schema table) (rows : List Row) where
  same_cells : map (cells (made_as table stands.tree)) (old.now.trees (made_as table stands.tree).tree)
      ≡ map (cells (standing table)) (club_trees old.now (standing table).tree)
  same_cells =
      (λ i. map (λ r. cells_are table stands.tree r i) (old.now.trees (made_as table stands.tree).tree))
      ∙ ap (map (cells (standing table))) (trees_here old.now.schema old.now.trees table stands)

  pub told_here : (keys : ℕ) → ReturnsRows (made_as table stands.tree) keys rows old.now.trees old new
      → ReturnsRows (standing table) keys rows (club_trees old.now) old new
  told_here keys told = record {
    keeps = keeps_moved (made_as table stands.tree) (standing table) old.now.trees (club_trees old.now) rows rows
        (cells_are table stands.tree) (trees_here old.now.schema old.now.trees table stands) refl told.keeps;
    once = subst (λ l. IsPermutation l rows) same_cells told.once;
    sorted = told.sorted;
    same = told.same;
  }
