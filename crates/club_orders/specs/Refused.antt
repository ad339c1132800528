-- The tasks that open a club, and the promises about files that are opened, rejected or not upgraded.
use Rattle.std.specs.Prelude.{◌≡◌, ◌⊎◌, ◌<◌, pos, true, ⊤}
use Rattle.sqlite.specs.Tree.{Trees}
use Rattle.store_tables.specs.Migrations.{LeavesInVersion}
use Rattle.store_tables.specs.Over.{Neighbours}
use Rattle.store_tables.specs.Tables.{IsServed, schema_number}
use Rattle.store_tables.specs.declared.names.Version.{Version}
use Rattle.store_tables.specs.declared.names.Version.TheVariants.{V1}
use Rattle.club_rows.specs.Club.{ClubState}
use Rattle.club_rows.specs.FirstSchema.{IsClubOf, tables_at}
use Rattle.schema_match.specs.Shapes.{is_of_club}
use Rattle.club_check.specs.declared.fault.OpenFault.{OpenFault}
use Rattle.club_check.specs.declared.fault.OpenFault.TheVariants.{Schema, Store, Memory}
use Rattle.club_orders.specs.Report.{IfTaken, IfUpgradeOf}
use Rattle.club_orders.specs.declared.report.Report.{Report}
use Rattle.cli.specs.declared.words.Task.{Task}
use Rattle.cli.specs.declared.words.Task.TheVariants as task

-- schema 1 is rejected by its number; or a call of the database failed, or memory ran out
abbrev pub IsOlder : OpenFault → Type 0
IsOlder fault = (fault ≡ Schema (pos 1)) ⊎ ((fault ≡ Store) ⊎ (fault ≡ Memory))

-- The database has the tables of a legal state of this schema, alone or beside foreign tables, in a schema equivalent
-- to a club's. A migration leads from there to a later schema that can be served, with these neighbours.
pub record HasEarlier (from : Version) (them : Neighbours) (s : ClubState) (trees : Trees) : Type 0 where
  pub legal : IsClubOf from s
  pub served : IsServed them.version
  pub earlier : schema_number from < schema_number them.version
  pub leaves : LeavesInVersion from them (tables_at from s) trees
  pub shape : is_of_club from leaves.before.schema ≡ true

-- every task opens a club, except its creation and its upgrade
abbrev pub IfOpensClub : Task → Type 0 → Type 0
IfOpensClub (task.Init has_arbiter) Holds = ⊤
IfOpensClub (task.Upgrade has_arbiter) Holds = ⊤
IfOpensClub _ Holds = Holds

-- If the task accepted the file, this holds for its schema version. Only an upgrade accepts schema 1, and its report
-- names the schema; the creation of a club accepts no club.
abbrev pub IfAccepted : Task → Report → (Version → Type 0) → Type 0
IfAccepted (task.Init has_arbiter) report Holds = ⊤
IfAccepted (task.Upgrade has_arbiter) report Holds = IfUpgradeOf report Holds
IfAccepted _ report Holds = IfTaken report ((version : Version) × IsServed version × Holds version)
