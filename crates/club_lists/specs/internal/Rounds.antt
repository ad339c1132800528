-- The round of a game that a round robin seated, by its key. Board b of round r has the key PREFIXr.b; digits at the
-- end of PREFIX are read as part of the round. No promise of the program rests on these definitions.
use Rattle.std.specs.Prelude.{ℕ, Bool, false, List, [], ◌∷◌, ◌++◌}
use Rattle.std.specs.Prelude.{codes, decimal}
use Rattle.club_lists.specs.Rounds.{is_digit}

-- the text ends in a digit
abbrev pub ends_in_digit : List ℕ → Bool
ends_in_digit [] = false
ends_in_digit (byte ∷ []) = is_digit byte
ends_in_digit (byte ∷ next ∷ bytes) = ends_in_digit (next ∷ bytes)

-- the key of a board of a round, after a prefix
abbrev pub round_key : (prefix : List ℕ) → (round board : ℕ) → List ℕ
round_key prefix round board = prefix ++ (decimal round ++ (codes "." ++ decimal board))
