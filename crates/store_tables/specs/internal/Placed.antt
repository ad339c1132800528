-- A club's tables in any schema: in any order, with any trees, among foreign tables. No promise of the program rests on
-- these definitions.
use Rattle.std.specs.Prelude.{ℕ, List, [], ◌∷◌}
use Rattle.std.specs.declared.cmp.Ordering.TheVariants.{Equal}
use Rattle.sqlite.specs.Order.{Row}
use Rattle.sqlite.specs.Schema.{Schema}
use Rattle.store_tables.specs.internal.Queries.{Finds, IsSelect}
use Rattle.store_tables.specs.Tables.{made_as}
use Rattle.store_tables.specs.internal.Reading.{by_columns}
use Rattle.store_tables.specs.internal.Texts.{by_column_text, question_text}
use Rattle.store_tables.specs.declared.names.Table as of_club
use Rattle.store_tables.specs.Placed.{HasTableAt}

-- The query by these columns returns the rows of the table with the wanted values, at this place.
pub record AsksHere (schema : Schema) (table : of_club.Table) (stands : HasTableAt schema table) (key : List ℕ)
    (wanted params : Row) : Type 0 where
  pub is_select : IsSelect (question_text (made_as table stands.tree) key)
  pub finds : Finds schema (made_as table stands.tree) stands.place key wanted params
      (question_text (made_as table stands.tree) key) (λ x y. Equal)

-- it does so wherever the table is
abbrev pub AsksAnywhere : of_club.Table → List ℕ → Row → Row → Type 0
AsksAnywhere table key wanted params =
    (schema : Schema) (stands : HasTableAt schema table) → AsksHere schema table stands key wanted params

-- The query by this column returns the rows of the table with the wanted value, at this place, in the order of a key of
-- `width` columns.
pub record LooksUpHere (schema : Schema) (table : of_club.Table) (stands : HasTableAt schema table) (width at : ℕ)
    (wanted params : Row) : Type 0 where
  pub is_select : IsSelect (by_column_text (made_as table stands.tree) at)
  pub finds : Finds schema (made_as table stands.tree) stands.place (at ∷ []) wanted params
      (by_column_text (made_as table stands.tree) at) (by_columns width)

-- it does so wherever the table is
abbrev pub LooksUpAnywhere : of_club.Table → (width at : ℕ) → Row → Row → Type 0
LooksUpAnywhere table width at wanted params =
    (schema : Schema) (stands : HasTableAt schema table) → LooksUpHere schema table stands width at wanted params
