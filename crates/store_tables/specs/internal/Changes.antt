-- The effect of upserts on the rows of a table, and equality of contents. No promise of the program rests on these
-- definitions.
use Rattle.std.specs.Prelude.{◌≡◌, ◌⊎◌, ℕ, true, List, [], ◌∷◌}
use Rattle.std.specs.List.{AllByRecursion}
use Rattle.sqlite.specs.Order.{Row}
use Rattle.sqlite.specs.Schema.{Schema}
use Rattle.sqlite_rules.specs.Lists.{Has}
use Rattle.store_tables.specs.Content.{same_key}
use Rattle.store_tables.specs.internal.Content.{put}
use Rattle.store_tables.specs.Contents.{Content}
use Rattle.store_tables.specs.Changes.{HaveSame}

-- each table of the schema has the same rows, in any order
abbrev pub AreSame : Schema → Content → Content → Type 0
AreSame schema one other = AllByRecursion (λ t. HaveSame (one t.tree) (other t.tree)) schema.tables

-- The new rows are the old ones with the changed rows upserted, one row for each key.
pub record Alters (key : List ℕ) (changed old new : List Row) : Type 0 where
  pub among : (row : Row) → Has changed row → Has new row
  pub from : (row : Row) → Has new row → Has old row ⊎ Has changed row
  pub stays : (row : Row) → Has old row → Has new row ⊎ ((by : Row) × Has changed by × (same_key key row by ≡ true))
  pub one : (row other : Row) → Has new row → Has new other → same_key key row other ≡ true → row ≡ other

-- upserts the rows in order
abbrev pub put_rows : List ℕ → List Row → List Row → List Row
put_rows key [] rows = rows
put_rows key (row ∷ more) rows = put_rows key more (put key row rows)
