-- The laws that the rules of each game satisfy. No promise of the program rests on these definitions.
use Rattle.std.specs.Prelude.{ℕ, List, Option, Some, None}

-- StandsFor: the text denotes the position
module _ {P : Type 0} (StandsFor : List ℕ → P → Type 0) where
  -- the result of reading a text as a position: the position that it denotes, or None if it denotes none
  abbrev pub IsPositionRead : List ℕ → Option P → Type 0
  IsPositionRead text (Some p) = StandsFor text p
  IsPositionRead text None = (p : P) → StandsFor text p → ⊥
