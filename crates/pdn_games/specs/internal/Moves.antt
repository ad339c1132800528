-- The moves that the texts of a game denote, each in its position. No promise of the program rests on these
-- definitions.
use Rattle.std.specs.Prelude.{◌≡◌, ◌⊎◌, ℕ, List}
use Rattle.pdn_games.specs.declared.faults.PdnFault.{PdnFault}
use Rattle.pdn_games.specs.declared.faults.PdnFault.TheVariants as fault
use Rattle.pdn_games.specs.Moves.{RefusesMove}

-- out of memory, or one of the texts is refused
abbrev pub RefusesMoves : List (List ℕ) → PdnFault → Type 0
RefusesMoves texts f = (f ≡ fault.Memory) ⊎ RefusesMove texts f
