-- The game of a text, and the refusals of texts. No promise of the program rests on these definitions.
use Rattle.std.specs.Prelude.{ℕ, List}
use Rattle.pdn_games.specs.declared.game.PdnGame.{PdnGame}
use Rattle.pdn_games.specs.Tokens.{PlacedToken}
use Rattle.pdn_games.specs.Reading.{IsGameWith, IsTextWith}

-- the tokens of the game
abbrev pub IsGameOf : List PlacedToken → PdnGame → Type 0
IsGameOf tokens game = IsGameWith tokens game.moves.items game.score

-- the text is the text of the game
abbrev pub IsTextOf : List ℕ → PdnGame → Type 0
IsTextOf text game = IsTextWith text game.moves.items game.score
