-- The texts of a sweep's faults. No promise of the program rests on these definitions.
use Rattle.std.specs.Prelude.{ℕ, List, codes}
use Rattle.club_changes.specs.declared.swept.fault.SweepFault.{SweepFault}
use Rattle.club_changes.specs.declared.swept.fault.SweepFault.TheVariants as fault

abbrev pub fault_text : SweepFault → List ℕ
fault_text fault.Memory = codes "out of memory"
fault_text fault.InconsistentRows = codes "the rows are those of no club"
