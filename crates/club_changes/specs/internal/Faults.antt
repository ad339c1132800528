-- The texts of faults, and the conversion of a sweep's fault. No promise of the program rests on these definitions.
use Rattle.std.specs.Prelude.{ℕ, List, codes}
use Rattle.club_changes.specs.declared.fault.ChangeFault.{ChangeFault}
use Rattle.club_changes.specs.declared.fault.ChangeFault.TheVariants as fault
use Rattle.club_changes.specs.declared.swept.fault.SweepFault.{SweepFault}
use Rattle.club_changes.specs.declared.swept.fault.SweepFault.TheVariants as sweep

abbrev pub fault_text : ChangeFault → List ℕ
fault_text fault.Memory = codes "out of memory"
fault_text fault.InconsistentRows = codes "the rows are those of no club"

abbrev pub fault_of_sweep : SweepFault → ChangeFault
fault_of_sweep sweep.Memory = fault.Memory
fault_of_sweep sweep.InconsistentRows = fault.InconsistentRows
