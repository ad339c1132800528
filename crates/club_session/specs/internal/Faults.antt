-- The faults of the store, as the HTTP application reports them. No promise of the program rests on these definitions.
use Rattle.std.specs.Prelude.{Result, Ok, Err}
use Rattle.store.specs.declared.fault.StoreFault.{StoreFault}
use Rattle.store.specs.declared.fault.StoreFault.TheVariants as club
use Rattle.store.specs.declared.fault.AskFault.{AskFault}
use Rattle.store.specs.declared.fault.AskFault.TheVariants as asking
use Rattle.http_desk.specs.declared.faults.ClubFault.{ClubFault}
use Rattle.http_desk.specs.declared.faults.ClubFault.TheVariants.{Store, Reopen, Memory, Schema}

abbrev pub fault_of_store : StoreFault → ClubFault
fault_of_store club.Store = Store
fault_of_store club.Reopen = Reopen
fault_of_store club.Memory = Memory
fault_of_store (club.Schema number) = Schema

abbrev pub club_fault : {A : Type 0} → Result A StoreFault → Result A ClubFault
club_fault (Ok found) = Ok found
club_fault (Err fault) = Err (fault_of_store fault)

-- answers are written to memory, so a failed write means out of memory
abbrev pub fault_of_question : AskFault → ClubFault
fault_of_question (asking.Club fault) = fault_of_store fault
fault_of_question asking.Output = Memory
