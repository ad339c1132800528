-- Subsequences of lists of squares. No promise of the program rests on these definitions.
use Rattle.std.specs.Prelude.{ℕ, ◌==◌, List, [], ◌∷◌, length, Bool, if◌then◌else◌}

-- the squares that are still unmatched after a landing on y
abbrev pub unmatched_after : List ℕ → ℕ → List ℕ
unmatched_after [] y = []
unmatched_after (x ∷ xs) y = if x == y then xs else x ∷ xs

-- whether the first list is a subsequence of the second
abbrev pub is_subsequence : List ℕ → List ℕ → Bool
is_subsequence xs [] = length xs == 0
is_subsequence xs (y ∷ ys) = is_subsequence (unmatched_after xs y) ys
