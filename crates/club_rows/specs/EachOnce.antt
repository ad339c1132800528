-- The rows of a table, in any order.
use Rattle.std.specs.Prelude.{◌≡◌, ℕ, List, Some, slice_get}
use Rattle.sqlite.specs.Order.{Row}
use Rattle.store_tables.specs.Changes.{HaveSame}

-- exactly these rows, each once, in any order
pub record AreEachOnce (rows all : List Row) : Type 0 where
  pub same : HaveSame rows all
  pub once : (i j : ℕ) (row : Row) → slice_get rows i ≡ Some row → slice_get rows j ≡ Some row → i ≡ j
