-- The terms of SQL and of the store that descriptions of rows and tables use.
pub use Rattle.sqlite.specs.Effect.{Database, IsDatabase}
pub use Rattle.sqlite.specs.Order.{Row, column}
pub use Rattle.sqlite.specs.Schema.{Schema}
pub use Rattle.sqlite.specs.State.{State, HasCleanDisk, Survives, IsUnchanged}
pub use Rattle.sqlite.specs.Table.{Table}
pub use Rattle.sqlite.specs.Tree.{Trees}
pub use Rattle.sqlite_rules.specs.Lists.{Has}
pub use Rattle.sqlite_trees.specs.Tree.{rowid}
unfoldable pub use Rattle.sqlite.specs.Listing.{understood}
unfoldable pub use Rattle.sqlite.specs.State.{Shown}
