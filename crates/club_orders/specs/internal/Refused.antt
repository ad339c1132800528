-- The tasks that open a club, and the promises about files that are opened, rejected or not upgraded. No promise of
-- the program rests on these definitions.
use Rattle.std.specs.Prelude.{◌≡◌, ◌≢◌, ◌⊎◌, Bool, true, List}
use Rattle.sqlite.specs.Tree.{Trees}
use Rattle.sqlite.specs.State.{State, Opens}
use Rattle.store_tables.specs.Over.{Neighbours}
use Rattle.store_tables.specs.Tables.{IsServed}
use Rattle.store_tables.specs.declared.names.Version.{Version}
use Rattle.store_tables.specs.declared.names.Version.TheVariants.{V1}
use Rattle.club_rows.specs.Club.{ClubState, IsClub}
use Rattle.club_check.specs.ReasonIsRight.{IsRightFault}
use Rattle.club_check.specs.Refused.{HoldClub}
use Rattle.club_check.specs.internal.Refused.{IsKept}
use Rattle.club_check.specs.RightTables.{NamesFirstDamaged}
use Rattle.club_check.specs.Versions.{HasToldTables}
use Rattle.club_check.specs.declared.fault.OpenFault.{OpenFault}
use Rattle.club_check.specs.declared.fault.OpenFault.TheVariants.{Store}
use Rattle.store.specs.Clubs.{Serves, version_with}
use Rattle.store.specs.Histories.{HistoryStep, HasState, IsHistory, IsReachable}
use Rattle.store.specs.Upgrades.{IsNameTaken, uses_names_of}
use Rattle.club_orders.specs.Refused.{HasEarlier}

-- The database has the tables of a legal state of schema 1, and a migration leads from there to a later schema.
abbrev pub HasFirst : Neighbours → ClubState → Trees → Type 0
HasFirst = HasEarlier V1

-- The tables were not upgraded to this schema. An upgrade accepts each version; if a call of the database failed, it
-- may have begun to write, but not where the name of a new table is used.
pub record IsUpgradeRefusal (to : Version) (old new : State) (fault : OpenFault) : Type 0 where
  pub blames : HasToldTables old.now → IsRightFault V1 old.now fault ⊎ IsNameTaken to old.now fault
  pub first : HasToldTables old.now → NamesFirstDamaged old.now fault
  pub kept : fault ≢ Store → Opens old → IsKept old new
  pub beside : uses_names_of to old.now.schema ≡ true → Opens old → IsKept old new

-- A club was opened, with an arbiter or without one: it is of schema 2 or 3 and not of schema 1, and legal if its
-- tables are a club's. Its state and its history continue from what was found, beside the same foreign tables, and also
-- from whatever a crash leaves.
pub record IsTakenOver (has_arbiter : Bool) (old new : State) : Type 0 where
  pub newer : (them : Neighbours) (s : ClubState) → ¬ HasFirst them s old.committed.trees
  pub legal : HasToldTables old.now → HoldClub old.committed.trees
  pub stands : (s : ClubState) → IsClub s → (has : HasState s old.committed.trees) → Serves has_arbiter new has.them s
  pub history : (from version : Version) (them : Neighbours) (sessions : List HistoryStep)
      → IsServed them.version → IsReachable from version them sessions old.committed.trees
      → (version ≡ version_with has_arbiter) × IsHistory from (version_with has_arbiter) them sessions new
  pub leads : (from version : Version) (them : Neighbours) (sessions : List HistoryStep)
      → IsReachable from version them sessions old.committed.trees → (db : Trees) → new.may_leave db
      → IsReachable from version them sessions db
