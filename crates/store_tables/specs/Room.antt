-- A database with foreign tables in which a club can be created.
use Rattle.std.specs.Prelude.{◌≡◌, ◌≤◌, ℕ, ◌^◌, nat_lt, true, false, List, [], ◌∷◌}
use Rattle.std.specs.List.{AllByRecursion}
use Rattle.sqlite.specs.Does.{lacks_sequence}
use Rattle.sqlite.specs.Schema.{Schema}
use Rattle.sqlite.specs.State.{State}
use Rattle.sqlite.specs.Table.{Table}
use Rattle.sqlite.specs.Tree.{Trees}
use Rattle.sqlite_catalog.specs.Change.{created, is_used, next_tree}
use Rattle.sqlite_schema.specs.Names.{same_name}
use Rattle.sqlite_schema.specs.declared.schema.Reference.{Reference}
use Rattle.sqlite_trees.specs.Tree.{IsAscending}
use Rattle.store_tables.specs.Contents.{IsExactly, Leaves}
use Rattle.store_tables.specs.Names.{table_name}
use Rattle.store_tables.specs.Over.{Neighbours}
use Rattle.store_tables.specs.Placed.{tables_of}
use Rattle.store_tables.specs.Tables.{IsServed, made_as}
use Rattle.store_tables.specs.declared.names.Table as of_club
use Rattle.store_tables.specs.declared.names.Version.{Version}

-- no table of a club of this version has this name
abbrev pub IsNoName : Version → List ℕ → Type 0
IsNoName version name = AllByRecursion (λ table. same_name (table_name table) name ≡ false) (tables_of version)

-- no FOREIGN KEY of the table refers to a table of a club of this version
abbrev pub IsUnrelated : Version → Table → Type 0
IsUnrelated version table = AllByRecursion (λ (ref : Reference). IsNoName version ref.parent) table.references

-- the schema after these tables of a club are created
abbrev pub made_in : Schema → List of_club.Table → Schema
made_in schema [] = schema
made_in schema (table ∷ tables) = made_in (created schema (made_as table 0)) tables

-- When each table is created, its name is unused and a tree is free; if a table uses AUTOINCREMENT, `sqlite_sequence`
-- exists.
abbrev pub AreUnused : Schema → List of_club.Table → Type 0
AreUnused schema [] = Unit {0}
AreUnused schema (table ∷ tables) =
    (is_used schema (table_name table) ≡ false) × (nat_lt (next_tree schema) (2 ^ 31) ≡ true)
    × (lacks_sequence (created schema (made_as table 0)) ≡ false) × AreUnused (created schema (made_as table 0)) tables

-- A club of this version, schema 2 or schema 3, can be created in the schema; `them` is the result.
pub record HasRoom (schema : Schema) (them : Neighbours) : Type 0 where
  pub served : IsServed them.version
  -- no two tables have the same tree
  pub trees : IsAscending (λ (a b : Table). a.tree ≡ b.tree → ⊥) schema.tables
  pub unrelated : AllByRecursion (IsUnrelated them.version) schema.tables
  pub unused : AreUnused schema (tables_of them.version)
  pub is : them.schema ≡ made_in schema (tables_of them.version)
  -- unused trees have no rows
  pub bare : (tree : ℕ) → next_tree schema ≤ tree → them.rows tree ≡ []

-- The connection has exactly these foreign rows and no club, also after a crash.
pub record IsWithoutClub (them : Neighbours) (s : State) : Type 0 where
  pub schema : Schema
  pub before : HasRoom schema them
  pub exactly : IsExactly schema them.rows s

-- after a crash the file has these foreign rows and no club
pub record LeavesNoClub (them : Neighbours) (trees : Trees) : Type 0 where
  pub schema : Schema
  pub before : HasRoom schema them
  pub leaves : Leaves schema them.rows trees
