-- Properties of the SFEN reader. No promise of the program rests on these definitions.
use Rattle.std.specs.Prelude.{◌≡◌, ℕ, List}
use Rattle.squares.specs.ShogiSets.{ShogiPosition}
use Rattle.sfen.specs.declared.faults.SfenFault.{SfenFault}
use Rattle.sfen.specs.internal.SfenGrammar.{IsRefused, IsSfenText}

-- A text denotes at most one position and one move number.
abbrev pub StandsForOne : Type 0
StandsForOne = (text : List ℕ) (p q : ShogiPosition) (m n : ℕ) → IsSfenText text p m → IsSfenText text q n → (p ≡ q)
    × (m ≡ n)

-- A text that is refused denotes no position, and its fault is unique.
abbrev pub IsRefusedOnce : Type 0
IsRefusedOnce = (text : List ℕ) (fault : SfenFault) → IsRefused text fault
    → ((p : ShogiPosition) (n : ℕ) → IsSfenText text p n → ⊥)
    × ((other : SfenFault) → IsRefused text other → other ≡ fault)
