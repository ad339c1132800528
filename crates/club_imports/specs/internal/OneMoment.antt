-- Moves that all have the same timestamp. No promise of the program rests on these definitions.
use Rattle.std.specs.Prelude.{ℕ, zero, suc, List, [], ◌∷◌}
use Rattle.club_core.specs.Game.{Clocks}

abbrev pub at_moment : ℕ → ℕ → List ℕ
at_moment moment zero = []
at_moment moment (suc plies) = moment ∷ at_moment moment plies

abbrev pub clocks_with : ℕ → ℕ → ℕ → Clocks
clocks_with first second since = record { left_first = first; left_second = second; since = since }
