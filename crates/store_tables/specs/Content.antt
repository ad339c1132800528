-- The rows of one table, independent of their rowids and of the layout of its tree.
use Rattle.std.specs.Prelude.{◌≡◌, ◌≢◌, ℕ, Bool, List, length, map, IsTrue}
use Rattle.std.specs.List.{AllByRecursion, range_with_len}
use Rattle.sqlite.specs.Order.{Row, column}
use Rattle.std.specs.declared.cmp.Ordering.TheVariants.{Equal}
use Rattle.sqlite_value.specs.Order.{value_cmp}
use Rattle.sqlite_trees.specs.Tree.{rowid, IsAscending}
use Rattle.sqlite_trees.specs.View.{is_int}
use Rattle.sqlite.specs.Table.{Table}
use Rattle.sqlite.specs.Tree.{Trees}
use Rattle.sqlite_schema.specs.Names.{place_of}
use Rattle.sqlite_schema.specs.Rules.{agree}
use Rattle.sqlite_value.specs.Keys.{plain}
use Rattle.sqlite_rules.specs.Lists.{Has}

-- the column values of a stored row; the INTEGER PRIMARY KEY column is the rowid
abbrev pub cells : Table → Row → Row
cells table row = map (λ at. column row (place_of table at)) (range_with_len 0 (length table.columns))

-- the table has exactly these rows
pub record Keeps (table : Table) (trees : Trees) (rows : List Row) : Type 0 where
  pub stored : (row : Row) → Has rows row → (r : Row) × Has (trees table.tree) r × (cells table r ≡ row)
  pub only : (r : Row) → Has (trees table.tree) r → Has rows (cells table r)

-- the rowids are distinct integers
pub record AreApart (rows : List Row) : Type 0 where
  pub apart : IsAscending (λ a b. value_cmp (rowid a) (rowid b) ≢ Equal) rows
  pub ints : AllByRecursion (λ r. IsTrue (is_int (rowid r))) rows

-- the same values in the columns of the key
abbrev pub same_key : List ℕ → Row → Row → Bool
same_key key a b = agree plain key a key b
