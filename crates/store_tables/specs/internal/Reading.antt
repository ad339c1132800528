-- The result of reading a table of any database. No promise of the program rests on these definitions.
use Rattle.std.specs.Prelude.{◌≢◌, ℕ, zero, suc, true, List, [], ◌∷◌, map, IsTrue}
use Rattle.std.specs.List.{AllByRecursion}
use Rattle.std.specs.List.Sorted.{IsSorted, IsPermutation}
use Rattle.std.specs.declared.cmp.Ordering.{Ordering}
use Rattle.std.specs.declared.cmp.Ordering.TheVariants.{Equal}
use Rattle.sqlite_value.specs.declared.keys.Key.{Key}
use Rattle.sqlite_value.specs.Keys.{ascending}
use Rattle.sqlite_value.specs.Order.{value_cmp}
use Rattle.sqlite.specs.Collation.TheVariants.{Binary}
use Rattle.sqlite.specs.Order.{Row, column}
use Rattle.sqlite.specs.Tree.{Trees}
use Rattle.sqlite.specs.Table.{Table}
use Rattle.sqlite.specs.State.{State, IsUnchanged}
use Rattle.sqlite.specs.declared.error.Error.{Error}
use Rattle.sqlite.specs.declared.error.Error.TheVariants.{SqlInputError}
use Rattle.sqlite_resolve.specs.declared.error.CompileError.{CompileError}
use Rattle.sqlite_sql.specs.Query.{key_cmp}
use Rattle.sqlite_trees.specs.Tree.{IsAscending}
use Rattle.sqlite_trees.specs.View.{is_int}
use Rattle.store_tables.specs.Content.{Keeps, AreApart, cells}

-- the first column of these rows has distinct integers
pub record AreIds (rows : List Row) : Type 0 where
  pub apart : IsAscending (λ a b. value_cmp (column a 0) (column b 0) ≢ Equal) rows
  pub ints : AllByRecursion (λ x. IsTrue (is_int (column x 0))) rows

abbrev pub rising : ℕ → List Key
rising zero = []
rising (suc n) = ascending Binary ∷ rising n

-- the order of ORDER BY the first n columns
abbrev pub by_columns : ℕ → Row → Row → Ordering
by_columns n = key_cmp 0 (rising n)

-- the order of ORDER BY the first column DESC
abbrev pub by_first_falling : Row → Row → Ordering
by_first_falling = key_cmp 0 (record { collation = Binary; descending = true } ∷ [])

-- the order of the moves of one game: by the second column, the ply
abbrev pub by_ply : Row → Row → Ordering
by_ply = key_cmp 1 (rising 1)

-- These are exactly the rows of the table, in the order of the key; the connection is unchanged.
pub record ReturnsRows (table : Table) (keys : ℕ) (rows : List Row) (trees : Trees) (old new : State) : Type 0 where
  pub keeps : Keeps table trees rows
  pub once : IsPermutation (map (cells table) (trees table.tree)) rows
  pub sorted : IsSorted (by_columns keys) rows
  pub same : IsUnchanged old new

-- The first columns shown are distinct integers if and only if the rowids are.
pub record TellsIds (stored rows : List Row) (old new : State) : Type 0 where
  pub apart : AreIds rows → AreApart stored
  pub ids : AreApart stored → AreIds rows
  pub sorted : IsSorted (by_columns 1) rows
  pub same : IsUnchanged old new

-- the error is not a rejected SQL statement
abbrev pub IsNoInput : Error → Type 0
IsNoInput e = (why : CompileError) → e ≢ SqlInputError why
