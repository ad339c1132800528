-- The tables of a club in a database, by schema version.
use Rattle.std.specs.Prelude.{◌≡◌, ◌≢◌, ◌⊎◌, ℤ, pos, true, false, [], ◌∷◌, map}
use Rattle.sqlite.specs.Effect.{Database, IsDatabase}
use Rattle.sqlite.specs.declared.types.Value.TheVariants.{Int}
use Rattle.sqlite.specs.Schema.{Schema}
use Rattle.sqlite.specs.State.{State}
use Rattle.sqlite.specs.Tree.{Trees}
use Rattle.sqlite_catalog.specs.Listing.{IsSound}
use Rattle.sqlite_rules.specs.Lists.{Has}
use Rattle.store_tables.specs.Contents as of_schema
use Rattle.store_tables.specs.Contents.{Content, AreStored}
use Rattle.store_tables.specs.Content.{cells}
use Rattle.store_tables.specs.Placed.{HasClubTables, HasTables, HasTablesOf, by_club, club_trees}
use Rattle.store_tables.specs.Tables.{schema_of, standing}
use Rattle.store_tables.specs.declared.names.Version.{Version}
use Rattle.store_tables.specs.declared.names.Version.TheVariants.{V1, V2, V3}
use Rattle.store_tables.specs.declared.names.Table.TheVariants.{Meta}
use Rattle.store_tables.specs.Names.{tree_of}
use Rattle.schema_match.specs.Shapes.{is_of_club}
use Rattle.club_rows.specs.Club.{ClubState}
use Rattle.club_rows.specs.FirstSchema.{IsClubOf, tables_at}

-- `meta` has one row, with this schema number
abbrev pub HasOnlyNumber : ℤ → Content → Type 0
HasOnlyNumber n content =
    (last : ℤ) × (content (tree_of Meta) ≡ (Int (pos 1) ∷ Int n ∷ Int last ∷ []) ∷ [])

-- The schema number tells schema 2 from schema 3, whose tables may exist beside those of schema 2 as foreign ones.
-- Without a schema number it is schema 3 if there are tables that can be used as all of its tables.
abbrev pub IsTold : Version → Schema → Content → Type 0
IsTold V1 schema content = Unit {0}
IsTold V2 schema content = is_of_club V3 schema ≡ true → (n : ℤ) × HasOnlyNumber n content × (n ≢ pos 3)
IsTold V3 schema content =
    ((n last : ℤ) → Has (content (tree_of Meta)) (Int (pos 1) ∷ Int n ∷ Int last ∷ []) → n ≢ pos 2)
    × (is_of_club V3 schema ≡ false → (n : ℤ) × HasOnlyNumber n content)

-- The database has these rows in the tables of this version, alone or beside foreign tables.
pub record HoldsRows (version : Version) (content : Content) (db : Database) : Type 0 where
  pub schema : HasTablesOf version db.schema
  pub told : IsTold version db.schema content
  pub sound : IsDatabase db
  pub tables : AreStored (schema_of version) (club_trees db) content

-- The schema has the tables of a club. If there are tables that can be used as those of schema 3, they are these
-- tables, or the schema number is another one.
pub record HasToldTables (db : Database) : Type 0 where
  pub club : HasClubTables db.schema
  pub third : is_of_club V3 db.schema ≡ true → HasTables V3 db.schema
      ⊎ ((n : ℤ) × HasOnlyNumber n (λ tree. map (cells (standing Meta)) (club_trees db tree)) × (n ≢ pos 3))

-- a later opening finds these rows in the tables of this version
pub record LeavesRows (version : Version) (content : Content) (trees : Trees) : Type 0 where
  pub schema : Schema
  pub stands : HasTablesOf version schema
  pub told : IsTold version schema content
  pub sound : IsSound schema trees
  pub tables : AreStored (schema_of version) (by_club schema trees) content

-- The database has the tables of this club in this version, alone or beside foreign tables.
abbrev pub HasClub : Version → Database → ClubState → Type 0
HasClub version db s = HoldsRows version (tables_at version s) db

-- a connection that was just opened over the tables of this version
abbrev pub IsOpenedAt : Version → State → Type 0
IsOpenedAt version = of_schema.IsOpened (schema_of version)

-- no legal club has the tables of the database, in any version
abbrev pub IsNoClub : Database → Type 0
IsNoClub db = (version : Version) (s : ClubState) → IsClubOf version s → ¬ HasClub version db s
