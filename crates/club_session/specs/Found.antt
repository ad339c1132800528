-- What an opening finds in files, and what later openings find in them.
use Rattle.std.specs.Prelude.{◌≡◌, ◌≢◌, ◌⊎◌, true, ⊤, Option, Some, None}
use Rattle.sqlite_wal.specs.Recovery.{Image}
use Rattle.sqlite.specs.Tree.{Trees}
use Rattle.sqlite.specs.Effect.{Database}
use Rattle.store_tables.specs.Placed.{HasClubTables}
use Rattle.store_tables.specs.Tables.{IsServed}
use Rattle.store_tables.specs.Over.{LeavesBeside, Neighbours}
use Rattle.store_tables.specs.declared.names.Version.{Version}
use Rattle.store_tables.specs.declared.names.Version.TheVariants.{V1, V2}
use Rattle.club_rows.specs.Club.{ClubState, IsClub, tables}
use Rattle.club_rows.specs.Tables.{version_of}
use Rattle.club_check.specs.ReasonIsRight.{IsRightFault}
use Rattle.club_check.specs.RightTables.{NamesFirstDamaged}
use Rattle.club_check.specs.declared.fault.OpenFault.{OpenFault}
use Rattle.club_check.specs.declared.fault.OpenFault.TheVariants as opening
use Rattle.store_files.specs.Finds.{IsFoundIn}
use Rattle.sqlite_catalog.specs.Listing.{IsSound}
use Rattle.sqlite.specs.Schema.{Schema}
use Rattle.store.specs.Histories.{HasState}
use Rattle.store.specs.Upgrades.{IsNameTaken, uses_names_of}
use Rattle.schema_match.specs.Shapes.{is_of_club}
use Rattle.club_check.specs.Refused.{HoldClub}
use Rattle.club_check.specs.Versions.{HasToldTables}
use Rattle.club_orders.specs.Refused.{HasEarlier}
use Rattle.club_orders.specs.Report.{AreCarried, IsOfCopy, IsUpgraded}
use Rattle.club_orders.specs.declared.report.Report.{Report}
use Rattle.club_orders.specs.declared.report.Report.TheVariants as report
use Rattle.http_desk.specs.declared.faults.ClubFault.{ClubFault}
use Rattle.http_desk.specs.declared.faults.ClubFault.TheVariants.{Reopen}
use Rattle.club_session.specs.Faults.{fault_of_opening}

-- The files hold this legal state: whatever an opening finds has its tables, alone or beside foreign tables, in a
-- schema equivalent to a club's.
pub record AreFilesOf (s : ClubState) (files : Image) : Type 0 where
  pub legal : IsClub s
  pub finds : (found : Trees) → IsFoundIn files found → HasState s found

-- The same beside these foreign tables.
pub record AreFilesBeside (them : Neighbours) (s : ClubState) (files : Image) : Type 0 where
  pub version : them.version ≡ version_of s
  pub legal : IsClub s
  pub shape : is_of_club (version_of s) them.schema ≡ true
  pub finds : (found : Trees) → IsFoundIn files found → LeavesBeside them (tables s) found

-- The files hold this legal state in this schema, alone or beside foreign tables. A migration leads from there to these
-- neighbours in a later schema.
pub record AreEarlierFilesOf (from : Version) (them : Neighbours) (s : ClubState) (files : Image) : Type 0 where
  pub finds : (found : Trees) → IsFoundIn files found → HasEarlier from them s found

-- the same for schema 1
abbrev pub AreFirstFilesOf : Neighbours → ClubState → Image → Type 0
AreFirstFilesOf = AreEarlierFilesOf V1

-- a database with this schema and these trees
abbrev pub database_of : Schema → Trees → Database
database_of schema trees = record { schema = schema; trees = trees }

-- The database has a schema with a club's tables, whatever their rows. If there are tables that can be used as those of
-- schema 3, they are these tables, or the schema number is another one.
abbrev pub ListClub : Schema → Trees → Type 0
ListClub schema trees = HasToldTables (database_of schema trees) × IsSound schema trees

-- If an opening found a club's tables, they are those of a legal state in its schema.
pub record AreSound (files : Image) : Type 0 where
  pub found : Trees
  pub is_found : IsFoundIn files found
  pub legal : (schema : Schema) → ListClub schema found → HoldClub found

-- Whatever an opening finds has the tables of a club of one of the versions, whatever their rows.
abbrev pub HaveClubTables : Image → Type 0
HaveClubTables files = (found : Trees) → IsFoundIn files found → (schema : Schema) × HasClubTables schema
    × IsSound schema found

-- The schema that an opening found is equivalent to that of a club of this version, whatever `CREATE` statements made
-- it.
pub record AnswerAs (version : Version) (files : Image) : Type 0 where
  pub found : Trees
  pub is_found : IsFoundIn files found
  pub shape : (schema : Schema) → IsSound schema found → is_of_club version schema ≡ true

-- The same for a version that can be served.
abbrev pub AnswerAsClub : Image → Type 0
AnswerAsClub files = (version : Version) × IsServed version × AnswerAs version files

-- Later openings find what this one found, whatever a crash leaves.
pub record AreKept (files : Image) (MayLeave : Image → Type 0) : Type 0 where
  pub found : Trees
  pub is_found : IsFoundIn files found
  pub stays : (left : Image) → MayLeave left → (later : Trees) → IsFoundIn left later → ∥ later ≡ found ∥₁

-- The database was rejected: if it has a club's tables, the reason is true of them; later openings find the same.
pub record AreRefused (files : Image) (MayLeave : Image → Type 0) (fault : OpenFault) : Type 0 where
  pub kept : AreKept files MayLeave
  pub blames : (schema : Schema) → ListClub schema kept.found
      → IsRightFault V2 (database_of schema kept.found) fault
  pub first : (schema : Schema) → ListClub schema kept.found → NamesFirstDamaged (database_of schema kept.found) fault

-- Whatever an opening finds has a table, an index or a view with the name of a table that schema 3 adds, if this
-- version is schema 3.
abbrev pub UseNamesOf : Version → Image → Type 0
UseNamesOf to files =
    (found : Trees) → IsFoundIn files found → (schema : Schema) → IsSound schema found → uses_names_of to schema ≡ true

-- The same for an upgrade to this version: if a call of the database failed, later openings may find more, but not
-- where the name of a new table is used.
pub record AreNotUpgraded (to : Version) (files : Image) (MayLeave : Image → Type 0) (fault : OpenFault) : Type 0 where
  pub found : Trees
  pub is_found : IsFoundIn files found
  pub blames : (schema : Schema) → ListClub schema found → IsRightFault V1 (database_of schema found) fault
      ⊎ IsNameTaken to (database_of schema found) fault
  pub first : (schema : Schema) → ListClub schema found → NamesFirstDamaged (database_of schema found) fault
  pub kept : fault ≢ opening.Store → AreKept files MayLeave
  pub beside : UseNamesOf to files → AreKept files MayLeave

-- A club's files were copied; or a call of the copy's or of the club's database failed, or memory ran out.
abbrev pub IsBackedUp : Report → Type 0
IsBackedUp (report.Unopened fault) = (fault ≡ opening.Store) ⊎ (fault ≡ opening.Memory)
IsBackedUp other = IsOfCopy other

-- The result of the upgrade of a club of this schema: later openings find the tables of the same state in the schema of
-- these neighbours, or, if the upgrade failed, perhaps in the earlier one, beside the same foreign tables.
pub record AreCarriedOver (from : Version) (them : Neighbours) (s : ClubState) (report : Report)
    (MayLeave : Image → Type 0) : Type 0 where
  pub answer : IsUpgraded from report
  pub leaves : (left : Image) → MayLeave left → (later : Trees) → IsFoundIn left later
      → ∥ AreCarried from them s report later ∥₁

-- the fault of a serving session: none, a failed call, or why the club was not opened
abbrev pub IsSessionFault : Image → (Image → Type 0) → Option ClubFault → Type 0
IsSessionFault files MayLeave None = ⊤
IsSessionFault files MayLeave (Some fault) = (fault ≡ Reopen)
    ⊎ ((why : OpenFault) × (fault ≡ fault_of_opening why) × AreRefused files MayLeave why)
