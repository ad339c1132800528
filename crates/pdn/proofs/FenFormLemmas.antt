-- Offsets of faults, from one part of a text to the whole.
use Rattle.std.proofs.Common.{ℕ}
use Rattle.pdn.specs.declared.faults.FenFault.{FenFault}
use Rattle.pdn.specs.declared.faults.FenFault.TheVariants as fault
use Rattle.pdn.specs.internal.ReadFen.{IsBadAt}

pub IsBadAt-map : (A B : ℕ → Type 0) → ((n : ℕ) → A n → B n) → (e : FenFault) → IsBadAt A e → IsBadAt B e
IsBadAt-map A B f fault.Memory h = tt
IsBadAt-map A B f (fault.BadText offset) h = f offset h
