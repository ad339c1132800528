-- Migrations of a club from one schema version to a later one, in a database that may also have foreign tables.
use Rattle.std.specs.Prelude.{◌≡◌, ◌≤◌, List, [], drop}
use Rattle.std.specs.List.{AllByRecursion}
use Rattle.sqlite.specs.State.{State}
use Rattle.sqlite.specs.Tree.{Trees}
use Rattle.store_tables.specs.Contents.{Content}
use Rattle.store_tables.specs.Names.{table_count}
use Rattle.store_tables.specs.Over.{HoldsClubAmong, LeavesBeside, Neighbours}
use Rattle.store_tables.specs.Placed.{TakesClub, rows_at, tables_of, tree_in}
use Rattle.store_tables.specs.Room.{AreUnused, made_in}
use Rattle.store_tables.specs.Tables.{schema_number}
use Rattle.store_tables.specs.declared.names.Table as of_club
use Rattle.store_tables.specs.declared.names.Version.{Version}

-- the tables that the second version has and the first has not
abbrev pub added_tables : Version → Version → List of_club.Table
added_tables from to = drop (table_count from) (tables_of to)

-- A migration creates the tables that the later version adds, and foreign tables keep their rows. Each version migrates
-- to itself. There is no migration if a foreign table, index or view has the name of a new table.
pub record MigratesTo (before after : Neighbours) : Type 0 where
  pub later : schema_number before.version ≤ schema_number after.version
  pub unused : AreUnused before.schema (added_tables before.version after.version)
  pub is : after.schema ≡ made_in before.schema (added_tables before.version after.version)
  pub rows : after.rows ≡ before.rows
  -- the trees of the new tables have no rows
  pub bare : AllByRecursion (λ table. rows_at before.rows (tree_in after.schema table) ≡ [])
      (added_tables before.version after.version)
  -- the migrated club accepts upserts
  pub clear : TakesClub after.version after.schema

-- The connection has exactly these rows of a club of this version, also after a crash; a migration leads from there to
-- these neighbours.
pub record HoldsInVersion (version : Version) (them : Neighbours) (content : Content) (s : State) : Type 0 where
  pub before : Neighbours
  pub is : before.version ≡ version
  pub migrates : MigratesTo before them
  pub holds : HoldsClubAmong before content s

-- after a crash the file has these rows of a club of this version; a migration leads from there to these neighbours
pub record LeavesInVersion (version : Version) (them : Neighbours) (content : Content) (trees : Trees) : Type 0 where
  pub before : Neighbours
  pub is : before.version ≡ version
  pub migrates : MigratesTo before them
  pub leaves : LeavesBeside before content trees
