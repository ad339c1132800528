-- Properties of the reader. No promise of the program rests on these definitions.
use Rattle.std.specs.Prelude.{◌≡◌, ℕ, List, [], ◌∷◌}
use Rattle.csa.specs.declared.faults.CsaFault.{CsaFault}
use Rattle.csa.specs.declared.faults.CsaFault.TheVariants as fault
use Rattle.csa.specs.declared.game.CsaGame.{CsaGame}
use Rattle.csa.specs.Reading.{IsRefused}
use Rattle.csa.specs.internal.Reading.{IsTextOf}

-- two games with the same moves and score, either both or neither with a declared win
abbrev pub SameGame : CsaGame → CsaGame → Type 0
SameGame g h = (g.moves.items ≡ h.moves.items) × (g.score ≡ h.score) × (g.declared ≡ h.declared)

abbrev pub SameGames : List CsaGame → List CsaGame → Type 0
SameGames [] [] = Unit {0}
SameGames [] (h ∷ hs) = ⊥
SameGames (g ∷ gs) [] = ⊥
SameGames (g ∷ gs) (h ∷ hs) = SameGame g h × SameGames gs hs

-- a text is the text of at most one list of games
abbrev pub TextsAreOfOne : Type 0
TextsAreOfOne = (text : List ℕ) (gs hs : List CsaGame) → IsTextOf text gs → IsTextOf text hs → SameGames gs hs

-- the only fault of a text of games is out of memory
abbrev pub TextsOfGamesAreRead : Type 0
TextsOfGamesAreRead = (text : List ℕ) (gs : List CsaGame) (f : CsaFault) → IsTextOf text gs → IsRefused text f
    → f ≡ fault.Memory
