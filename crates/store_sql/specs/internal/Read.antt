-- The results of reading a table, and what a fault implies about its rows. No promise of the program rests on these
-- definitions.
use Rattle.std.specs.Prelude.{Bool, true, false, Result, Ok, Err, ◌≡◌, ◌≢◌, ◌⊎◌, ℕ, ℤ, ◌+◌, ◌<◌, pos, List, [], map}
use Rattle.std.specs.Prelude.{length, get_or, Option, Some, None}
use Rattle.std.specs.List.{AllByRecursion}
use Rattle.std.specs.List.Sorted.{IsSorted, IsPermutation}
use Rattle.std.specs.declared.cmp.Ordering.TheVariants.{Less}
use Rattle.sqlite_value.specs.Order.{value_cmp}
use Rattle.sqlite_rules.specs.Lists.{Has}
use Rattle.sqlite.specs.Order.{Row, column}
use Rattle.sqlite.specs.Table.{Table}
use Rattle.sqlite.specs.State.{State, IsUnchanged}
use Rattle.sqlite.specs.declared.types.Value.TheVariants.{Int}
use Rattle.store_tables.specs.Content.{Keeps, AreApart, cells}
use Rattle.store_tables.specs.Placed.{club_trees}
use Rattle.store_tables.specs.internal.Queries.{by_others}
use Rattle.store_tables.specs.internal.Reading.{by_columns}
use Rattle.store_sql.specs.declared.fault.ReadFault.{ReadFault}
use Rattle.store_sql.specs.declared.fault.ReadFault.TheVariants.{WrongType, Store, Memory}
use Rattle.store_sql.specs.Read.{beginning_with}

-- These are exactly the rows of the table, in the order of the key; the connection is unchanged.
pub record IsReadAs (table : Table) (width : ℕ) (rows : List Row) (old new : State) : Type 0 where
  pub keeps : Keeps table (club_trees old.now) rows
  pub once : IsPermutation (map (cells table) (club_trees old.now table.tree)) rows
  pub apart : AreApart (club_trees old.now table.tree)
  pub sorted : IsSorted (by_columns width) rows
  pub same : IsUnchanged old new

-- The table has this many rows with distinct rowids; the connection is unchanged.
pub record AreCounted (tree count : ℕ) (old new : State) : Type 0 where
  pub apart : AreApart (club_trees old.now tree)
  pub number : count ≡ length (club_trees old.now tree)
  pub same : IsUnchanged old new

-- These are exactly the rows of the table whose first column is this number, in the order of the rest of the key; the
-- connection is unchanged.
pub record AreReadOf (table : Table) (width : ℕ) (n : ℤ) (rows : List Row) (old new : State) : Type 0 where
  pub once : IsPermutation (beginning_with n (map (cells table) (club_trees old.now table.tree))) rows
  pub sorted : IsSorted (by_others width) rows
  pub same : IsUnchanged old new

-- The fault has a cause: a call failed, memory ran out, or a row has a value of a wrong type.
abbrev pub Blames : Table → (Row → Type 0) → State → ReadFault → Type 0
Blames table IsTyped old fault =
    (fault ≡ Store) ⊎ ((fault ≡ Memory) ⊎ ((fault ≡ WrongType)
    × ((rows : List Row) → Keeps table (club_trees old.now) rows → AreApart (club_trees old.now table.tree)
    → ¬ AllByRecursion IsTyped rows)))

-- The row is one with the greatest first column; it is `None` where there is no row.
abbrev pub IsLast : List Row → Option Row → Type 0
IsLast rows None = rows ≡ []
IsLast rows (Some row) = Has rows row
    × ((x : Row) → Has rows x → value_cmp (column row 0) (column x 0) ≢ Less)

-- the ids of the rows are 1, 2, 3 and so on
abbrev pub BeginWithPlaces : List Row → Type 0
BeginWithPlaces rows = (k : ℕ) → k < length rows → column (get_or rows k []) 0 ≡ Int (pos (k + 1))

-- The rows were read, or the fault is a value of a wrong type.
abbrev pub was_read : {T : Type 0} → Result T ReadFault → Bool
was_read (Ok rows) = true
was_read (Err WrongType) = true
was_read (Err fault) = false
