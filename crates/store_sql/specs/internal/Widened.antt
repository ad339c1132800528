-- The effect of a migration. No promise of the program rests on these definitions.
use Rattle.std.specs.Prelude.{◌≡◌, true, List, []}
use Rattle.std.specs.List.{AllByRecursion}
use Rattle.sqlite.specs.State.{State}
use Rattle.store_tables.specs.internal.Changed.{widened}
use Rattle.store_tables.specs.Contents.{Content}
use Rattle.store_tables.specs.Migrations.{MigratesTo, added_tables}
use Rattle.store_tables.specs.Names.{tree_of}
use Rattle.store_tables.specs.Over.{Neighbours}
use Rattle.store_tables.specs.internal.Over.{HoldsBeside}
use Rattle.store_tables.specs.Placed.{HasTables}
use Rattle.store_tables.specs.declared.names.Version.{Version}
use Rattle.store_tables.specs.declared.rows.EventRuleRow.{EventRuleRow}
use Rattle.store_tables.specs.declared.rows.MetaRow.{MetaRow}

-- the content has no rows of the tables that the later version adds
abbrev pub HasNoneAdded : Version → Version → Content → Type 0
HasNoneAdded from to content = AllByRecursion (λ table. content (tree_of table) ≡ []) (added_tables from to)

-- Inside a transaction the rows were migrated from one version to the other, with these event rules and this row of
-- `meta`; nothing was committed.
pub record WidensTo (from to : Version) (rules : List EventRuleRow) (meta : MetaRow) (old new : State) : Type 0 where
  pub holds : (before : Neighbours) → before.version ≡ from → (after : Neighbours) → after.version ≡ to
      → MigratesTo before after → HasTables from before.schema → (content : Content) → HasNoneAdded from to content
      → HoldsBeside before content old.now → HoldsBeside after (widened rules meta content) new.now
  pub committed : new.committed ≡ old.committed
  pub inside : new.in_transaction ≡ true
