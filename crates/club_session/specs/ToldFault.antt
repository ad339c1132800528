-- The fault that a serving session reports.
use Rattle.std.specs.Prelude.{◌≡◌, ◌⊎◌, ⊤, true, Option, Some, None}
use Rattle.sqlite.specs.Schema.{Schema}
use Rattle.store_tables.specs.Tables.{IsServed}
use Rattle.store_tables.specs.declared.names.Version.{Version}
use Rattle.schema_match.specs.Shapes.{is_of_club}
use Rattle.http_desk.specs.declared.faults.ClubFault.{ClubFault}
use Rattle.http_desk.specs.declared.faults.ClubFault.TheVariants.{Reopen}
use Rattle.http_desk.specs.Served.{IsOfCall}

-- if the club was opened
abbrev pub IfOpened : Option ClubFault → Type 0 → Type 0
IfOpened None Holds = Holds
IfOpened (Some Reopen) Holds = Holds
IfOpened (Some _) Holds = ⊤

-- the faults possible over a sound club file: a call failed, or out of memory
abbrev pub IsOfClub : ClubFault → Type 0
IsOfClub fault = (fault ≡ Reopen) ⊎ IsOfCall fault
