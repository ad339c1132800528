-- Tags, moves and results among the tokens of a game's text.
use Rattle.std.specs.Prelude.{ℕ, ◌||◌, not, nat_eq, Bool, false, Option, Some, None, List, [], ◌∷◌, codes}
use Rattle.std.specs.Prelude.{if◌then◌else◌}
use Rattle.std.specs.List.{starts_with}
use Rattle.std.specs.Str.{bytes_eq}
use Rattle.squares.specs.DraughtsOpening.{opening}
use Rattle.pdn.specs.ReadFen.{IsFen}
use Rattle.pdn_games.specs.declared.results.ResultWord.{ResultWord}
use Rattle.pdn_games.specs.Tokens.{Token, tag, number, move_by, result, PlacedToken}

-- the value of a token that is a tag of this name
abbrev pub value_in : List ℕ → Token → Option (List ℕ)
value_in name (tag n v) = if bytes_eq n name then Some v else None
value_in name number = None
value_in name (move_by text) = None
value_in name (result w) = None

-- the first of two values that is present
abbrev pub value_or : Option (List ℕ) → Option (List ℕ) → Option (List ℕ)
value_or (Some value) other = Some value
value_or None other = other

-- the value of the first tag of this name
abbrev pub first_tag : List ℕ → List PlacedToken → Option (List ℕ)
first_tag name [] = None
first_tag name (placed ∷ more) = value_or (value_in name placed.token) (first_tag name more)

-- the texts of moves from a token on; `more` are those after the token
abbrev pub texts_in : Token → List (List ℕ) → List (List ℕ)
texts_in (tag n v) more = more
texts_in number more = more
texts_in (move_by text) more = text ∷ more
texts_in (result w) more = more

-- the texts of the moves
abbrev pub move_texts : List PlacedToken → List (List ℕ)
move_texts [] = []
move_texts (placed ∷ more) = texts_in placed.token (move_texts more)

-- the result of a token, or else the first one after it
abbrev pub word_or : Token → Option ResultWord → Option ResultWord
word_or (tag n v) more = more
word_or number more = more
word_or (move_by text) more = more
word_or (result w) more = Some w

-- the first result, if any
abbrev pub result_in : List PlacedToken → Option ResultWord
result_in [] = None
result_in (placed ∷ more) = word_or placed.token (result_in more)

-- a kind of draughts other than the international one, which is `20` or begins with `20,`
abbrev pub is_other : Option (List ℕ) → Bool
is_other None = false
is_other (Some kind) = not (bytes_eq kind (codes "20") || starts_with nat_eq kind (codes "20,"))

-- whether the `GameType` tag names a kind of draughts other than the international one
abbrev pub is_other_type : List PlacedToken → Bool
is_other_type tokens = is_other (first_tag (codes "GameType") tokens)

-- the FEN tag, if any, denotes the initial position
abbrev pub BeginsEven : Option (List ℕ) → Type 0
BeginsEven None = Unit {0}
BeginsEven (Some text) = IsFen text opening

abbrev pub HasOpening : List PlacedToken → Type 0
HasOpening tokens = BeginsEven (first_tag (codes "FEN") tokens)
