-- The output of a writer of records.
use Rattle.std.specs.Prelude.{ℕ, List, map}

-- the moves without their seconds
abbrev pub made_in : {M : Type 0} → List (M × ℕ) → List M
made_in plies = map (λ p. p.0) plies
