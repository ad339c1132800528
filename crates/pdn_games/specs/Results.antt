-- The results that end a game's text.
use Rattle.std.specs.Prelude.{ℕ, nat_eq, Option, Some, None, List, [], ◌∷◌, Bool, codes, find}
use Rattle.std.specs.List.{starts_with}
use Rattle.std.specs.Str.{bytes_eq}
use Rattle.squares.specs.declared.sides.Score.{Score}
use Rattle.squares.specs.declared.sides.Score.TheVariants.{FirstWins, Draw, SecondWins}
use Rattle.pdn_games.specs.declared.results.ResultWord.{ResultWord}
use Rattle.pdn_games.specs.declared.results.ResultWord.TheVariants as word

-- the text of a result
abbrev pub word_text : ResultWord → List ℕ
word_text word.TwoNil = codes "2-0"
word_text word.OneOne = codes "1-1"
word_text word.NilTwo = codes "0-2"
word_text word.OneNil = codes "1-0"
word_text word.Halves = codes "1/2-1/2"
word_text word.NilOne = codes "0-1"
word_text word.Star = codes "*"

-- the score of a result; a star has none
abbrev pub score_of : ResultWord → Option Score
score_of word.TwoNil = Some FirstWins
score_of word.OneOne = Some Draw
score_of word.NilTwo = Some SecondWins
score_of word.OneNil = Some FirstWins
score_of word.Halves = Some Draw
score_of word.NilOne = Some SecondWins
score_of word.Star = None

-- the results that a text of a game can have
abbrev pub words : List ResultWord
words = word.TwoNil ∷ word.OneOne ∷ word.NilTwo ∷ word.OneNil ∷ word.Halves ∷ word.NilOne ∷ word.Star ∷ []

-- whether a text begins with this result
abbrev pub begins_with : List ℕ → ResultWord → Bool
begins_with text w = starts_with nat_eq text (word_text w)

-- the result at the front of a text, which is unique
unfoldable pub result_at : List ℕ → Option ResultWord
result_at text = find (begins_with text) words

-- the result that a whole text denotes
unfoldable pub result_word : List ℕ → Option ResultWord
result_word text = find (λ w. bytes_eq text (word_text w)) words
