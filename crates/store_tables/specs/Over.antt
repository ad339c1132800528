-- The rows of a club in a database that also has foreign tables, indexes and views.
use Rattle.std.specs.Prelude.{◌≡◌, ℕ, ◌==◌, Bool, false, if◌then◌else◌, List, [], ◌∷◌, Option, Some, None}
use Rattle.std.specs.List.{AllByRecursion}
use Rattle.sqlite.specs.Schema.{Schema}
use Rattle.sqlite.specs.State.{State}
use Rattle.sqlite.specs.Tree.{Trees}
use Rattle.store_tables.specs.Contents.{Content, IsExactly, Leaves, nothing}
use Rattle.store_tables.specs.Names.{tree_of}
use Rattle.store_tables.specs.Placed.{HasTables, TakesClub, by_club, tables_of, tree_in}
use Rattle.store_tables.specs.Tables.{schema_of}
use Rattle.store_tables.specs.declared.names.Table as of_club
use Rattle.store_tables.specs.declared.names.Version.{Version}
use Rattle.store_tables.specs.declared.names.Version.TheVariants.{V2}

-- The tables of a club of this version have exactly these rows, wherever they are in the schema and whatever foreign
-- tables there are; also after a crash.
pub record HasRowsIn (version : Version) (content : Content) (s : State) : Type 0 where
  pub schema : Schema
  -- the rows of all tables of the schema
  pub whole : Content
  pub club : HasTables version schema
  pub are : AllByRecursion (λ table. by_club schema whole (tree_of table) ≡ content (tree_of table)) (tables_of version)
  pub exactly : IsExactly schema whole s

-- ---- foreign tables

-- there is a tree, and it has this number
abbrev pub is_tree : ℕ → Option ℕ → Bool
is_tree n None = false
is_tree n (Some tree) = n == tree

-- the club's content in the trees of these tables, and the foreign rows in all other trees
abbrev pub over_each : Schema → List of_club.Table → Content → Content → Content
over_each schema [] club others n = others n
over_each schema (table ∷ tables) club others n =
    if is_tree n (tree_in schema table) then club (tree_of table) else over_each schema tables club others n

-- The database of a club with everything else in it.
pub record Neighbours : Type 0 where
  -- the schema version of the club
  pub version : Version
  -- the whole schema, with the club's tables, indexes and views
  pub schema : Schema
  -- the rows of foreign tables
  pub rows : Content

-- a database with only a club of this version
abbrev pub alone : Version → Neighbours
alone version = record { version = version; schema = schema_of version; rows = nothing }

-- the rows of all tables of the schema: the content of the club's tables in their trees, else the foreign rows
unfoldable pub over : Neighbours → Content → Content
over them content = over_each them.schema (tables_of them.version) content them.rows

-- The connection has exactly these rows of a club and the foreign rows, also after a crash. No foreign object affects
-- upserts of the club's rows.
pub record HoldsClubAmong (them : Neighbours) (content : Content) (s : State) : Type 0 where
  pub clear : TakesClub them.version them.schema
  pub exactly : IsExactly them.schema (over them content) s

-- after a crash the file has these rows of a club and the foreign rows
pub record LeavesBeside (them : Neighbours) (content : Content) (trees : Trees) : Type 0 where
  pub clear : TakesClub them.version them.schema
  pub leaves : Leaves them.schema (over them content) trees
