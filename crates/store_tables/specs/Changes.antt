-- The effect of upserts on the rows of a table, and equality of contents.
use Rattle.std.specs.Prelude.{List}
use Rattle.sqlite.specs.Order.{Row}
use Rattle.sqlite_rules.specs.Lists.{Has}

-- the same rows, in any order
pub record HaveSame (one other : List Row) : Type 0 where
  pub there : (row : Row) → Has one row → Has other row
  pub back : (row : Row) → Has other row → Has one row
