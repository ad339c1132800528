-- The faults of the store, as the HTTP application reports them.
use Rattle.club_check.specs.declared.fault.OpenFault.{OpenFault}
use Rattle.club_check.specs.declared.fault.OpenFault.TheVariants as opening
use Rattle.http_desk.specs.declared.faults.ClubFault.{ClubFault}
use Rattle.http_desk.specs.declared.faults.ClubFault.TheVariants.{Foreign, Schema, Damaged, Store, Memory}

-- the fault of an opening, without the schema number or the damaged table
abbrev pub fault_of_opening : OpenFault → ClubFault
fault_of_opening opening.Foreign = Foreign
fault_of_opening (opening.Schema number) = Schema
fault_of_opening (opening.Damaged table) = Damaged
fault_of_opening opening.Store = Store
fault_of_opening opening.Memory = Memory
