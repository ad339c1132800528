-- The rows in a club's database, and the rows after a crash.
use Rattle.std.specs.Prelude.{◌≡◌, ℕ, false, List, [], IsTrue}
use Rattle.std.specs.List.{AllByRecursion}
use Rattle.sqlite.specs.Order.{Row}
use Rattle.sqlite.specs.Tree.{Trees}
use Rattle.sqlite.specs.Table.{Table}
use Rattle.sqlite.specs.Schema.{Schema}
use Rattle.sqlite.specs.Effect.{Database, IsDatabase}
use Rattle.sqlite.specs.State.{State}
use Rattle.sqlite_catalog.specs.Listing.{IsSound}
use Rattle.store_tables.specs.Content.{AreApart, Keeps}
use Rattle.store_tables.specs.Tables.{schema_after}

-- the rows of each table, by the number of its tree
abbrev pub Content : Type 0
Content = ℕ → List Row

-- all tables are empty
abbrev pub nothing : Content
nothing t = []

-- the table has exactly these rows, and their rowids are distinct integers
pub record Stores (table : Table) (trees : Trees) (content : Content) : Type 0 where
  pub rows : Keeps table trees (content table.tree)
  pub apart : AreApart (trees table.tree)

-- each table has exactly these rows
abbrev pub AreStored : Schema → Trees → Content → Type 0
AreStored schema trees content = AllByRecursion (λ t. Stores t trees content) schema.tables

-- The database has this schema, and each table has its rows.
pub record Holds (wanted : Schema) (db : Database) (content : Content) : Type 0 where
  pub schema : db.schema ≡ wanted
  pub sound : IsDatabase db
  pub tables : AreStored wanted db.trees content

-- the state of the file after a crash: a sound database whose tables have these rows
pub record Leaves (schema : Schema) (content : Content) (trees : Trees) : Type 0 where
  pub sound : IsSound schema trees
  pub tables : AreStored schema trees content

-- Outside a transaction, the database has exactly these rows, also after a crash.
pub record IsExactly (schema : Schema) (content : Content) (s : State) : Type 0 where
  pub is_open : IsTrue s.is_open
  pub idle : s.in_transaction ≡ false
  pub now : Holds schema s.now content
  pub committed : s.committed ≡ s.now
  pub may_leave : (db : Trees) → s.may_leave db → Leaves schema content db

-- A connection that was just opened over a schema, with any rows; a crash leaves the committed state.
pub record IsOpened (wanted : Schema) (s : State) : Type 0 where
  pub is_open : IsTrue s.is_open
  pub idle : s.in_transaction ≡ false
  pub schema : s.now.schema ≡ wanted
  pub sound : IsDatabase s.now
  pub committed : s.committed ≡ s.now
  pub settled : (db : Trees) → s.may_leave db → db ≡ s.committed.trees

-- ---- creating the tables

-- the first tables were created and are empty
pub record AreMade (schema : Schema) (db : Database) : Type 0 where
  pub schema_is : db.schema ≡ schema
  pub sound : IsDatabase db
  pub empty : AllByRecursion (λ t. db.trees t.tree ≡ []) schema.tables

-- a sound database without tables
pub record IsEmpty (trees : Trees) : Type 0 where
  pub sound : IsSound (schema_after 0) trees

-- Outside a transaction, the database has no table, also after a crash.
pub record IsExactlyEmpty (s : State) : Type 0 where
  pub is_open : IsTrue s.is_open
  pub idle : s.in_transaction ≡ false
  pub now : AreMade (schema_after 0) s.now
  pub may_leave : (db : Trees) → s.may_leave db → IsEmpty db
