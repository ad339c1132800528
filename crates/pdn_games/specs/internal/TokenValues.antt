-- The mathematical value of the tokens that the lexer returns. No promise of the program rests on these definitions.
use Rattle.std.specs.Prelude.{List, map}
use Rattle.pdn_games.specs.declared.tokens.Token as answer
use Rattle.pdn_games.specs.declared.tokens.Token.TheVariants as named
use Rattle.pdn_games.specs.declared.tokens.PlacedToken as answer_placed
use Rattle.pdn_games.specs.Tokens.{Token, tag, number, move_by, result, PlacedToken}

abbrev pub token_of : answer.Token → Token
token_of (named.Tag name value) = tag name.now value.now
token_of named.Number = number
token_of (named.Move text) = move_by text.now
token_of (named.Result w) = result w

abbrev pub placed_of : answer_placed.PlacedToken → PlacedToken
placed_of p = record { at = p.at; token = token_of p.token }

abbrev pub all_placed : List answer_placed.PlacedToken → List PlacedToken
all_placed tokens = map placed_of tokens
