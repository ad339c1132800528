-- Bytes before and after a delimiter. No promise of the program rests on these definitions.
use Rattle.std.specs.Prelude.{◌≡◌, ◌≢◌, ◌<◌, ℕ, List, ◌∷◌, ◌++◌, length, slice_index}

-- the byte does not occur
abbrev pub Lacks : ℕ → List ℕ → Type 0
Lacks byte bytes = (k : ℕ) → k < length bytes → slice_index bytes k ≢ byte

-- the bytes before and after its first occurrence
pub record IsCut (byte : ℕ) (bytes front rest : List ℕ) : Type 0 where
  pub is : bytes ≡ front ++ byte ∷ rest
  pub first : Lacks byte front
