-- The fault that a serving session reports. No promise of the program rests on these definitions.
use Rattle.std.specs.Prelude.{◌≡◌, ◌⊎◌, ⊤, Bool, true, false, Option, Some, None}
use Rattle.sqlite.specs.State.{State}
use Rattle.club_check.specs.internal.Refused.{IsRefusal}
use Rattle.club_check.specs.declared.fault.OpenFault.{OpenFault}
use Rattle.http_desk.specs.declared.faults.ClubFault.{ClubFault}
use Rattle.http_desk.specs.declared.faults.ClubFault.TheVariants.{Reopen}
use Rattle.club_session.specs.Faults.{fault_of_opening}
use Rattle.sqlite.specs.Schema.{Schema}
use Rattle.store_tables.specs.Tables.{IsServed}
use Rattle.store_tables.specs.declared.names.Version.{Version}
use Rattle.schema_match.specs.Shapes.{is_of_club}

-- none; `Reopen` if a call failed; or the reason why the club could not be opened
abbrev pub IsReportedFault : State → State → Option ClubFault → Type 0
IsReportedFault old new None = ⊤
IsReportedFault old new (Some fault) = (fault ≡ Reopen)
    ⊎ ((opening : OpenFault) × (fault ≡ fault_of_opening opening) × IsRefusal old new opening)

abbrev pub fault_after : Bool → Option ClubFault
fault_after true = Some Reopen
fault_after false = None

-- the schema is equivalent to that of a club that can be served: schema 2 or schema 3
abbrev pub HasServedSchema : Schema → Type 0
HasServedSchema schema = (version : Version) × IsServed version × (is_of_club version schema ≡ true)
