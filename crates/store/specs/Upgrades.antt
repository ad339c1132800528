-- The schema version that an upgrade found, the one that it left, and the names for which it is refused.
use Rattle.std.specs.Prelude.{◌≡◌, Bool, true, false, ◌||◌}
use Rattle.sqlite.specs.Effect.{Database}
use Rattle.sqlite.specs.Schema.{Schema}
use Rattle.sqlite_catalog.specs.Change.{is_used}
use Rattle.store_tables.specs.Names.{table_name}
use Rattle.store_tables.specs.declared.names.Table.TheVariants.{Keys, Rulings, Closings}
use Rattle.store_tables.specs.declared.names.Version.{Version}
use Rattle.store_tables.specs.declared.names.Version.TheVariants.{V1, V2, V3}
use Rattle.schema_match.specs.Shapes.{is_of_club}
use Rattle.club_check.specs.Versions.{HasClub}
use Rattle.club_check.specs.declared.fault.OpenFault.{OpenFault}
use Rattle.club_check.specs.declared.fault.OpenFault.TheVariants.{Foreign}
use Rattle.club_rows.specs.Club.{ClubState}
use Rattle.club_rows.specs.FirstSchema.{IsClubOf}
use Rattle.store.specs.declared.upgrade_result.Upgrade.{Upgrade}
use Rattle.store.specs.declared.upgrade_result.Upgrade.TheVariants.{Done, Already}

abbrev pub version_found : Upgrade → Version
version_found (Done from) = from
version_found (Already version) = version

-- the version after an upgrade to the requested one
abbrev pub version_left : Version → Upgrade → Version
version_left to (Done from) = to
version_left to (Already version) = version

-- A table, an index or a view has the name of a table that this version has and schema 2 has not.
abbrev pub uses_names_of : Version → Schema → Bool
uses_names_of V1 schema = false
uses_names_of V2 schema = false
uses_names_of V3 schema =
    is_used schema (table_name Keys) || (is_used schema (table_name Rulings) || is_used schema (table_name Closings))

-- An upgrade to this version is refused, since the name of a table that it creates is used: the database is not that of
-- a club that has the table itself.
pub record IsNameTaken (to : Version) (db : Database) (fault : OpenFault) : Type 0 where
  pub foreign : fault ≡ Foreign
  pub used : uses_names_of to db.schema ≡ true
  pub other : (s : ClubState) → IsClubOf V3 s → HasClub V3 db s → ¬ (is_of_club V3 db.schema ≡ true)
