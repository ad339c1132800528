-- Properties of the reader. No promise of the program rests on these definitions.
use Rattle.std.specs.Prelude.{◌≡◌, ℕ, List}
use Rattle.pdn_games.specs.declared.faults.PdnFault.{PdnFault}
use Rattle.pdn_games.specs.declared.faults.PdnFault.TheVariants as fault
use Rattle.pdn_games.specs.declared.game.PdnGame.{PdnGame}
use Rattle.pdn_games.specs.Reading.{IsRefused}
use Rattle.pdn_games.specs.internal.Reading.{IsTextOf}

-- two games with the same moves and the same score
abbrev pub SameGame : PdnGame → PdnGame → Type 0
SameGame g h = (g.moves.items ≡ h.moves.items) × (g.score ≡ h.score)

-- a text is the text of at most one game
abbrev pub TextsAreOfOne : Type 0
TextsAreOfOne = (text : List ℕ) (g h : PdnGame) → IsTextOf text g → IsTextOf text h → SameGame g h

-- the only fault of the text of a game is out of memory
abbrev pub TextsOfGamesAreRead : Type 0
TextsOfGamesAreRead = (text : List ℕ) (g : PdnGame) (f : PdnFault) → IsTextOf text g → IsRefused text f
    → f ≡ fault.Memory
