-- A club's tables in any schema: in any order, with any trees, among foreign tables.
use Rattle.std.specs.Prelude.{◌≡◌, ℕ, ◌==◌, ◌&&◌, ◌^◌, nat_lt, true, false, if◌then◌else◌, List, [], ◌∷◌}
use Rattle.std.specs.Prelude.{Option, Some, None, Ok, IfSome, find, slice_get, take}
use Rattle.std.specs.List.{AllByRecursion}
use Rattle.sqlite.specs.Order.{Row}
use Rattle.sqlite.specs.Schema.{Schema}
use Rattle.sqlite.specs.Table.{Table}
use Rattle.sqlite.specs.Effect.{Database}
use Rattle.sqlite.specs.Tree.{Trees}
use Rattle.sqlite_catalog.specs.Change.{is_used}
use Rattle.sqlite_catalog.specs.Listing.{IsGuarded}
use Rattle.sqlite_resolve.specs.Given.{key_at}
use Rattle.sqlite_rules.specs.Keys.{aims}
use Rattle.sqlite_schema.specs.Names.{table_named}
use Rattle.sqlite_schema.specs.Rules.{guards, parent_key}
use Rattle.sqlite_schema.specs.declared.schema.Index.{Index}
use Rattle.sqlite_schema.specs.declared.schema.Reference.{Reference}
use Rattle.sqlite_trees.specs.Tree.{IsAscending}
use Rattle.sqlite_value.specs.Keys.{plain}
use Rattle.store_tables.specs.Contents.{Content}
use Rattle.store_tables.specs.Names.{in_order, table_count, table_name, tree_of}
use Rattle.store_tables.specs.Tables.{made_as}
use Rattle.store_tables.specs.declared.names.Table as of_club
use Rattle.store_tables.specs.declared.names.Table.TheVariants.{EventRules}
use Rattle.store_tables.specs.declared.names.Version.{Version}
use Rattle.store_tables.specs.declared.names.Version.TheVariants.{V1, V2, V3}

-- The schema has this table of a club, with a tree of its own.
pub record HasTableAt (schema : Schema) (table : of_club.Table) : Type 0 where
  pub place : ℕ
  pub tree : ℕ
  -- its name resolves to its place
  pub named : table_named schema (table_name table) ≡ Some place
  pub at : slice_get schema.tables place ≡ Some (made_as table tree)
  -- no table before it has its tree
  pub own : find (λ (t : Table). t.tree == tree) schema.tables ≡ Some (made_as table tree)
  -- it is not the temporary table of a statement
  pub stored : nat_lt tree (2 ^ 31) ≡ true
  -- each UNIQUE constraint of the table has its index
  pub guarded : IsGuarded schema.indexes (made_as table tree)

-- the tables of this schema version
abbrev pub tables_of : Version → List of_club.Table
tables_of version = take (table_count version) in_order

-- The schema has the tables of this version, and perhaps others.
abbrev pub HasTables : Version → Schema → Type 0
HasTables version schema = AllByRecursion (HasTableAt schema) (tables_of version)

-- the tables whose names tell that a club is of a later version
abbrev pub excluded_tables : Version → List of_club.Table
excluded_tables V1 = EventRules ∷ []
excluded_tables V2 = []
excluded_tables V3 = []

-- The schema has the tables of this version, and no table, view or index uses the name of a table that it excludes. A
-- foreign table may have the name of a table that only schema 3 has: the number in `meta` tells schema 2 from schema 3.
abbrev pub HasTablesOf : Version → Schema → Type 0
HasTablesOf version schema = HasTables version schema
    × AllByRecursion (λ table. is_used schema (table_name table) ≡ false) (excluded_tables version)

-- those of one of the versions
abbrev pub HasClubTables : Schema → Type 0
HasClubTables schema = (version : Version) × HasTablesOf version schema

-- a property of each of these tables at its place
abbrev pub EachStanding : (schema : Schema) → ((table : of_club.Table) → HasTableAt schema table → Type 0)
    → (tables : List of_club.Table) → AllByRecursion (HasTableAt schema) tables → Type 0
EachStanding schema P [] stand = Unit {0}
EachStanding schema P (table ∷ tables) stand = P table stand.0 × EachStanding schema P tables stand.1

-- ---- the rows of a club, by the tree numbers of `tree_of`

-- the tree of a table, if there is one
abbrev pub tree_of_found : Option Table → Option ℕ
tree_of_found None = None
tree_of_found (Some table) = Some table.tree

-- the tree of the table at this place of the schema, if there is one
abbrev pub tree_at : Schema → Option ℕ → Option ℕ
tree_at schema None = None
tree_at schema (Some place) = tree_of_found (slice_get schema.tables place)

-- the tree of a club's table in this schema, if there is a table with its name
unfoldable pub tree_in : Schema → of_club.Table → Option ℕ
tree_in schema table = tree_at schema (table_named schema (table_name table))

-- the rows in this tree; none if there is no tree
abbrev pub rows_at : Content → Option ℕ → List Row
rows_at content None = []
rows_at content (Some tree) = content tree

-- the rows of these tables of the club, by the tree numbers of `tree_of`
abbrev pub among : Schema → Content → List of_club.Table → Content
among schema content [] n = []
among schema content (table ∷ tables) n =
    if n == tree_of table then rows_at content (tree_in schema table) else among schema content tables n

-- the rows of the club's tables, wherever they are in the schema
unfoldable pub by_club : Schema → Content → Content
by_club schema content = among schema content in_order

-- the same for the trees of a database
abbrev pub club_trees : Database → Trees
club_trees db = by_club db.schema db.trees

-- ---- upserts beside foreign objects

-- a schema with only this table
abbrev pub only : Table → Schema
only table = record { tables = table ∷ []; indexes = []; views = [] }

-- the FOREIGN KEY does not refer to a table of this schema
abbrev pub IsOfOthers : Schema → List Table → Reference → Type 0
IsOfOthers club tables ref =
    IfSome (parent_key tables ref) (λ key. AllByRecursion (λ t. (key.0 == t.tree) ≡ false) club.tables)

-- A unique index on exactly the columns of the primary key compares them as the key does.
abbrev pub IsAlike : Table → Index → Type 0
IsAlike table index = (guards index table && aims (Some table.primary) index.columns) ≡ true → index.order ≡ plain

-- Foreign objects do not affect the upsert of a row by its key. They may include indexes on the table, even UNIQUE
-- ones, which may reject a row.
pub record IsLeftAlone (schema : Schema) (table : Table) : Type 0 where
  -- the columns of its primary key are resolved as a key, in their order
  pub keyed : key_at schema table table.primary ≡ Ok table.primary
  pub alike : AllByRecursion (IsAlike table) schema.indexes
  -- no FOREIGN KEY refers to it
  pub childless : AllByRecursion (λ (t : Table). AllByRecursion (IsOfOthers (only table) schema.tables) t.references)
      schema.tables

-- The schema has the tables of this version, each accepts upserts, and no two tables have the same tree.
pub record TakesClub (version : Version) (schema : Schema) : Type 0 where
  pub club : HasTables version schema
  pub clear : EachStanding schema (λ table stands. IsLeftAlone schema (made_as table stands.tree)) (tables_of version)
      club
  pub trees : IsAscending (λ (a b : Table). a.tree ≡ b.tree → ⊥) schema.tables
