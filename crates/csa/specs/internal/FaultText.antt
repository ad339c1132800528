-- The text of a fault: its number, its name and its parameters. No promise of the program rests on these definitions.
use Rattle.std.specs.Prelude.{ℕ, List, ◌++◌, codes}
use Rattle.std.specs.Fmt.{decimal}
use Rattle.csa.specs.declared.faults.CsaFault.{CsaFault}
use Rattle.csa.specs.declared.faults.CsaFault.TheVariants as fault
use Rattle.csa.specs.internal.Causes.{cause_number}

abbrev pub fault_text : CsaFault → List ℕ
fault_text fault.Memory = codes "out of memory"
fault_text (fault.BadText line) = codes "40 BadText " ++ decimal line
fault_text fault.Version = codes "41 Version"
fault_text fault.OtherOpening = codes "42 OtherOpening"
fault_text (fault.Illegal ply cause) = codes "43 Illegal " ++ decimal ply ++ codes " " ++ decimal (cause_number cause)
fault_text fault.Unfinished = codes "44 Unfinished"
fault_text (fault.AfterEnd ply) = codes "45 AfterEnd " ++ decimal ply
fault_text fault.ResultDiffers = codes "46 ResultDiffers"
