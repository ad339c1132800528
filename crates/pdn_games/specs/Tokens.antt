-- The lexer of a game's text.
use Rattle.std.specs.Prelude.{◌≡◌, ℕ, ◌-◌, ◌==◌, ◌&&◌, nat_lt, List, [], ◌∷◌, length, take, drop, Bool, true, false}
use Rattle.std.specs.Prelude.{Option, Some, None, if◌then◌else◌}
use Rattle.pdn_games.specs.declared.results.ResultWord.{ResultWord}
use Rattle.pdn_games.specs.Lengths.{number_len, move_len}
use Rattle.pdn_games.specs.Results.{word_text, result_at}
use Rattle.pdn_games.specs.Skips.{past_skipped}
use Rattle.pdn_games.specs.Tags.{TagFront, tag_front}

-- A tag with its name and raw value, a move number, the text of a move, or a result.
pub data Token : Type 0 where
  tag : List ℕ → List ℕ → Token
  number : Token
  move_by : List ℕ → Token
  result : ResultWord → Token

-- a token read from the front of a text, with the rest of the text
pub record TokenFront : Type 0 where
  pub token : Token
  pub rest : List ℕ

-- a tag as a token
abbrev pub tag_token : Option TagFront → Option TokenFront
tag_token None = None
tag_token (Some t) = Some (record { token = tag t.name t.value; rest = t.rest })

-- the length of a result's text; 0 if there is no result
abbrev pub word_len : Option ResultWord → ℕ
word_len None = 0
word_len (Some w) = length (word_text w)

-- a result at the front of a text as a token
abbrev pub result_token : List ℕ → Option ResultWord → Option TokenFront
result_token text None = None
result_token text (Some w) = Some (record { token = result w; rest = drop (length (word_text w)) text })

-- The longest of a move number, a move and a result, by length; a result wins over a move of the same length.
abbrev pub longest : List ℕ → ℕ → ℕ → Option ResultWord → Option TokenFront
longest text numbered moved word =
    if nat_lt moved numbered && nat_lt (word_len word) numbered then Some
    (record { token = number; rest = drop numbered text })
    else if nat_lt (word_len word) moved then Some
    (record { token = move_by (take moved text); rest = drop moved text })
    else result_token text word

-- the token at the front of a text
unfoldable pub token_front : List ℕ → Option TokenFront
token_front [] = None
token_front (c ∷ rest) =
    if c == 91 then tag_token (tag_front rest) else longest (c ∷ rest) (number_len (c ∷ rest)) (move_len (c ∷ rest))
    (result_at (c ∷ rest))

-- The front of a text: its end, a skipped part, a token, or a syntax error; with the rest of the text.
pub data LexStep : Type 0 where
  ended : LexStep
  skipped : List ℕ → LexStep
  found : Token → List ℕ → LexStep
  stuck : LexStep

-- a token at the front of a text, or a syntax error if there is none
abbrev pub found_front : Option TokenFront → LexStep
found_front None = stuck
found_front (Some t) = found t.token t.rest

-- the front of a text, which is a skipped part if there is one, otherwise a token if `free` allows one
abbrev pub front_with : Bool → List ℕ → Option (List ℕ) → LexStep
front_with free text (Some rest) = skipped rest
front_with free text None = if free then found_front (token_front text) else stuck

-- The front of a text. `begins_line`: it is at the start of a line; `free`: a token is allowed here.
unfoldable pub front_at : Bool → Bool → List ℕ → LexStep
front_at begins_line free [] = ended
front_at begins_line free (c ∷ rest) = front_with free (c ∷ rest) (past_skipped begins_line (c ∷ rest))

-- whether a text begins with a line feed, after which a new line begins
abbrev pub begins_feed : List ℕ → Bool
begins_feed [] = false
begins_feed (c ∷ rest) = c == 10

-- A tag and a move number may be followed by any token without a skipped part between them.
abbrev pub lets_follow : Token → Bool
lets_follow (tag name value) = true
lets_follow number = true
lets_follow (move_by text) = false
lets_follow (result w) = false

-- a token, and its offset in the whole text
pub record PlacedToken : Type 0 where
  pub at : ℕ
  pub token : Token

-- The tokens of the rest of a text of `total` bytes, and the offset of the first syntax error, if any.
pub data Lexes (total : ℕ) : Bool → Bool → List ℕ → List PlacedToken → Option ℕ → Type 0 where
  at_end : (line free : Bool) (text : List ℕ) → front_at line free text ≡ ended → Lexes total line free text [] None
  stops : (line free : Bool) (text : List ℕ) → front_at line free text ≡ stuck
      → Lexes total line free text [] (Some (total - length text))
  skips : (line free : Bool) (text rest : List ℕ) (tokens : List PlacedToken) (stop : Option ℕ)
      → front_at line free text ≡ skipped rest → Lexes total (begins_feed text) true rest tokens stop
      → Lexes total line free text tokens stop
  takes : (line free : Bool) (text rest : List ℕ) (token : Token) (tokens : List PlacedToken) (stop : Option ℕ)
      → front_at line free text ≡ found token rest → Lexes total false (lets_follow token) rest tokens stop
      → Lexes total line free text (record { at = total - length text; token = token } ∷ tokens) stop

-- the tokens of a whole text, and the offset of the first syntax error, if any
abbrev pub TextTokens : List ℕ → List PlacedToken → Option ℕ → Type 0
TextTokens text tokens stop = Lexes (length text) true true text tokens stop
