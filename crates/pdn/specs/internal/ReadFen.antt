-- The position that a FEN text denotes. No promise of the program rests on these definitions.
use Rattle.std.specs.Prelude.{◌≡◌, ◌⊎◌, ℕ, List, Some, Ok, Err}
use Rattle.pdn.specs.declared.faults.FenFault.{FenFault}
use Rattle.pdn.specs.declared.faults.FenFault.TheVariants as fault
use Rattle.pdn.specs.FenForm.{FenForm, ReadsForm}
use Rattle.pdn.specs.ReadFen.{repeated}

-- The faults of a text: it has no form, or an item names a square of an earlier item.
abbrev pub HasFenFault : List ℕ → FenFault → Type 0
HasFenFault text fault.Memory = Unit {0}
HasFenFault text (fault.BadText offset) = ReadsForm text (Err offset)
    ⊎ ((form : FenForm) × ReadsForm text (Ok form) × (repeated form.items ≡ Some offset))

-- a syntax error, by its possible offsets
abbrev pub IsBadAt : (ℕ → Type 0) → FenFault → Type 0
IsBadAt at fault.Memory = Unit {0}
IsBadAt at (fault.BadText offset) = at offset
