-- The text of a fault. No promise of the program rests on these definitions.
use Rattle.std.specs.Prelude.{ℕ, List, ◌++◌, codes}
use Rattle.std.specs.Fmt.{decimal}
use Rattle.sfen.specs.declared.faults.SfenFault.{SfenFault}
use Rattle.sfen.specs.declared.faults.SfenFault.TheVariants.{BadText, TooManyPieces, Kings}

abbrev pub fault_text : SfenFault → List ℕ
fault_text (BadText offset) = codes "no such text after " ++ decimal offset ++ codes " bytes"
fault_text TooManyPieces = codes "more pieces of a kind than a set has"
fault_text Kings = codes "a side has not one king"
