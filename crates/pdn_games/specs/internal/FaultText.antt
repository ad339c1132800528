-- The text of a fault: its number, its name and its parameters. No promise of the program rests on these definitions.
use Rattle.std.specs.Prelude.{ℕ, List, ◌++◌, codes}
use Rattle.std.specs.Fmt.{decimal}
use Rattle.pdn_games.specs.declared.faults.PdnFault.{PdnFault}
use Rattle.pdn_games.specs.declared.faults.PdnFault.TheVariants as fault
use Rattle.pdn_games.specs.internal.Causes.{cause_number}

abbrev pub fault_text : PdnFault → List ℕ
fault_text fault.Memory = codes "out of memory"
fault_text (fault.BadText offset) = codes "20 BadText " ++ decimal offset
fault_text (fault.Ambiguous ply) = codes "21 Ambiguous " ++ decimal ply
fault_text (fault.Illegal ply cause) = codes "22 Illegal " ++ decimal ply ++ codes " " ++ decimal (cause_number cause)
fault_text fault.OtherType = codes "23 OtherType"
fault_text fault.OtherOpening = codes "24 OtherOpening"
fault_text fault.Unfinished = codes "25 Unfinished"
fault_text (fault.AfterEnd ply) = codes "26 AfterEnd " ++ decimal ply
fault_text fault.ResultDiffers = codes "27 ResultDiffers"
