-- The grammar of a tag. No promise of the program rests on these definitions.
use Rattle.std.specs.Prelude.{◌≡◌, ◌≢◌, ◌↔◌, ◌<◌, ℕ, List, [], ◌∷◌, ◌++◌, length, Some}
use Rattle.pdn_games.specs.internal.SkipGrammar.{All}
use Rattle.pdn_games.specs.Tags.{is_name_byte, is_space, tag_front}

-- A raw value: a backslash escapes the byte after it, and a quote occurs only escaped.
pub data IsValue : List ℕ → Type 0 where
  nothing : IsValue []
  byte : (c : ℕ) (text : List ℕ) → c ≢ 34 → c ≢ 92 → IsValue text → IsValue (c ∷ text)
  escaped : (c : ℕ) (text : List ℕ) → IsValue text → IsValue (92 ∷ c ∷ text)

-- A tag after its opening bracket: a name of letters, digits and `_`, a quoted value, and a closing bracket, each after
-- any number of spaces.
pub record IsTag (text name value rest : List ℕ) : Type 0 where
  pub first : List ℕ
  pub second : List ℕ
  pub third : List ℕ
  pub first_blank : All is_space first
  pub second_blank : All is_space second
  pub third_blank : All is_space third
  pub named : 0 < length name
  pub name_is : All is_name_byte name
  pub value_is : IsValue value
  pub text_is : text ≡ first ++ (name ++ (second ++ (34 ∷ value ++ (34 ∷ third ++ 93 ∷ rest))))

-- The parser reads exactly these tags.
abbrev pub TagsFollowGrammar : Type 0
TagsFollowGrammar = (text name value rest : List ℕ)
    → (tag_front text ≡ Some (record { name = name; value = value; rest = rest })) ↔ IsTag text name value rest
