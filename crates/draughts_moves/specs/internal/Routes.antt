-- The computed capture routes, in lexicographic order of their landings. No promise of the program rests on these
-- definitions.
use Rattle.std.specs.Prelude.{ℕ, List, map, Vec}
use Rattle.std.specs.declared.alloc.Global.{Global}

-- The lists in a list of vectors.
abbrev pub lists_in : List (Vec ℕ Global) → List (List ℕ)
lists_in vectors = map (λ v. v.items) vectors
