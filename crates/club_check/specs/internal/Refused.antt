-- The promise about a database that was just opened: it holds a club, or it was rejected. No promise of the program
-- rests on these definitions.
use Rattle.std.specs.Prelude.{◌≡◌}
use Rattle.sqlite.specs.Tree.{Trees}
use Rattle.sqlite.specs.State.{State, Opens}
use Rattle.store_tables.specs.declared.names.Version.TheVariants.{V2}
use Rattle.club_check.specs.ReasonIsRight.{IsRightFault}
use Rattle.club_check.specs.RightTables.{NamesFirstDamaged}
use Rattle.club_check.specs.Versions.{HasToldTables}
use Rattle.club_check.specs.declared.fault.OpenFault.{OpenFault}

-- whatever a crash leaves is what the opening found
abbrev pub IsKept : State → State → Type 0
IsKept old new = (db : Trees) → new.may_leave db → db ≡ old.committed.trees

-- The database was rejected: the reason is true, a damaged table is the first wrong one, and nothing changed.
pub record IsRefusal (old new : State) (fault : OpenFault) : Type 0 where
  pub blames : HasToldTables old.now → IsRightFault V2 old.now fault
  pub first : HasToldTables old.now → NamesFirstDamaged old.now fault
  pub kept : Opens old → IsKept old new
