-- Numbers and names of the faults of a club, and which of them pass soon.
use Rattle.std.specs.Prelude.{ℕ, Bool, true, false, List, codes}
use Rattle.http_desk.specs.declared.faults.ClubFault.{ClubFault}
use Rattle.http_desk.specs.declared.faults.ClubFault.TheVariants.{Foreign, Schema, Damaged, Store, Reopen, Memory}
use Rattle.http_desk.specs.declared.faults.ClubFault.TheVariants.{Leased, Clock}

-- the error number in the reply
abbrev pub club_fault_number : ClubFault → ℕ
club_fault_number Foreign = 70
club_fault_number Schema = 71
club_fault_number Damaged = 72
club_fault_number Store = 73
club_fault_number Reopen = 74
club_fault_number Memory = 75
club_fault_number Leased = 73
club_fault_number Clock = 76

-- the name of the fault in the reply
abbrev pub club_fault_name : ClubFault → List ℕ
club_fault_name Foreign = codes "Foreign"
club_fault_name Schema = codes "Schema"
club_fault_name Damaged = codes "Damaged"
club_fault_name Store = codes "Store"
club_fault_name Reopen = codes "Reopen"
club_fault_name Memory = codes "Memory"
club_fault_name Leased = codes "Store"
club_fault_name Clock = codes "Input"

-- a lease ends after some seconds
abbrev pub passes_soon : ClubFault → Bool
passes_soon Foreign = false
passes_soon Schema = false
passes_soon Damaged = false
passes_soon Store = false
passes_soon Reopen = false
passes_soon Memory = false
passes_soon Leased = true
passes_soon Clock = false
