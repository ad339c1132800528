-- The `%` statements that end a record.
use Rattle.std.specs.Prelude.{ℕ, Option, List, [], ◌∷◌, codes, find}
use Rattle.std.specs.Str.{bytes_eq}
use Rattle.csa.specs.declared.end_words.EndWord.{EndWord}
use Rattle.csa.specs.declared.end_words.EndWord.TheVariants as word

-- the text of a `%` statement
abbrev pub word_text : EndWord → List ℕ
word_text word.Resigned = codes "%TORYO"
word_text word.TimeUp = codes "%TIME_UP"
word_text word.IllegalMove = codes "%ILLEGAL_MOVE"
word_text word.Mate = codes "%TSUMI"
word_text word.Declared = codes "%KACHI"
word_text word.Repetition = codes "%SENNICHITE"
word_text word.Impasse = codes "%JISHOGI"
word_text word.Draw = codes "%HIKIWAKE"
word_text word.BlackIllegal = codes "%+ILLEGAL_ACTION"
word_text word.WhiteIllegal = codes "%-ILLEGAL_ACTION"
word_text word.Interrupted = codes "%CHUDAN"

-- the ends whose `%` statements are known
abbrev pub end_words : List EndWord
end_words = word.Resigned ∷ word.TimeUp ∷ word.IllegalMove ∷ word.Mate ∷ word.Declared ∷ word.Repetition
    ∷ word.Impasse ∷ word.Draw ∷ word.BlackIllegal ∷ word.WhiteIllegal ∷ word.Interrupted ∷ []

-- the end that a statement names
abbrev pub end_word : List ℕ → Option EndWord
end_word text = find (λ w. bytes_eq text (word_text w)) end_words
