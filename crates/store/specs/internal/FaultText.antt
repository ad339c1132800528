-- The texts of the faults of an open club. No promise of the program rests on these definitions.
use Rattle.std.specs.Prelude.{List, ℕ, codes}
use Rattle.store.specs.declared.fault.AskFault.{AskFault}
use Rattle.store.specs.declared.fault.AskFault.TheVariants as ask_fault
use Rattle.store.specs.FaultText.{store_fault_text}

abbrev pub ask_fault_text : AskFault → List ℕ
ask_fault_text (ask_fault.Club fault) = store_fault_text fault
ask_fault_text ask_fault.Output = codes "77 Output"
