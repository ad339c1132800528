-- FIDE's Berger table for six players: round, board, First, Second. Boards are numbered by the lower player. No promise
-- of the program rests on these definitions.
use Rattle.std.specs.Prelude.{ℕ, List, [], ◌∷◌}
use Rattle.pairings.specs.declared.table.BoardPairing.{BoardPairing}

abbrev pub game : ℕ → ℕ → ℕ → ℕ → BoardPairing
game round board first second = record { round = round; board = board; first = first; second = second }

unfoldable pub fide_of_six : List BoardPairing
fide_of_six =
    game 1 1 1 6 ∷ game 1 2 2 5 ∷ game 1 3 3 4
    ∷ game 2 1 1 2 ∷ game 2 2 5 3 ∷ game 2 3 6 4
    ∷ game 3 1 3 1 ∷ game 3 2 2 6 ∷ game 3 3 4 5
    ∷ game 4 1 1 4 ∷ game 4 2 2 3 ∷ game 4 3 6 5
    ∷ game 5 1 5 1 ∷ game 5 2 4 2 ∷ game 5 3 3 6 ∷ []
