-- The mathematical value of the fronts that the lexer returns. No promise of the program rests on these definitions.
use Rattle.std.specs.Prelude.{◌<◌, ℕ, List, length}
use Rattle.pdn_games.specs.declared.tokens.LexStep as answer
use Rattle.pdn_games.specs.declared.tokens.LexStep.TheVariants as named
use Rattle.pdn_games.specs.Tokens.{LexStep, ended, skipped, found, stuck}
use Rattle.pdn_games.specs.internal.TokenValues.{token_of}

abbrev pub front_of : answer.LexStep → LexStep
front_of named.Ended = ended
front_of (named.Skipped rest) = skipped rest.now
front_of (named.Found token rest) = found (token_of token) rest.now
front_of named.Stuck = stuck

-- the rest of the text is shorter than the text
abbrev pub IsShorter : List ℕ → answer.LexStep → Type 0
IsShorter text named.Ended = Unit {0}
IsShorter text (named.Skipped rest) = length rest.now < length text
IsShorter text (named.Found token rest) = length rest.now < length text
IsShorter text named.Stuck = Unit {0}
