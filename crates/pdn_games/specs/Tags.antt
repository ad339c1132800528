-- Parser of a tag: `[Name "value"]`, with optional spaces between its parts.
use Rattle.std.specs.Prelude.{ℕ, ◌==◌, ◌&&◌, ◌||◌, ◌+◌, nat_le, List, [], ◌∷◌, take, drop, Bool, false, Option, Some}
use Rattle.std.specs.Prelude.{None, if◌then◌else◌}
use Rattle.std.specs.List.{prefix_len}
use Rattle.std.specs.Option.{option_map_or}
use Rattle.pdn.specs.FenItems.{past_byte}
use Rattle.pdn.specs.SquareText.{is_digit}

-- a letter, a digit or `_`
abbrev pub is_name_byte : ℕ → Bool
is_name_byte c = (is_digit c || (nat_le 65 c && nat_le c 90)) || ((nat_le 97 c && nat_le c 122) || c == 95)

-- a space
abbrev pub is_space : ℕ → Bool
is_space c = c == 32

-- the rest of the text after the spaces at its front
abbrev pub past_spaces : List ℕ → List ℕ
past_spaces text = drop (prefix_len is_space text) text

-- a part read from the front of a text, with the rest of the text
pub record Part : Type 0 where
  pub value : List ℕ
  pub rest : List ℕ

-- a name of letters, digits and `_`
abbrev pub name_front : List ℕ → Option Part
name_front text =
    if prefix_len is_name_byte text == 0 then None
    else Some
    (record { value = take (prefix_len is_name_byte text) text; rest = drop (prefix_len is_name_byte text) text })

-- Whether the next byte is escaped, or None if this byte is the closing quote. A backslash escapes the byte after it.
abbrev pub quote_step : Bool → ℕ → Option Bool
quote_step escaped c = if escaped then Some false else if c == 34 then None else Some (c == 92)

-- the index of the closing quote, counted from `at`
abbrev pub quote_at : ℕ → Bool → List ℕ → Option ℕ
quote_at at escaped [] = None
quote_at at escaped (c ∷ rest) = option_map_or (λ next. quote_at (at + 1) next rest) (quote_step escaped c) (Some at)

-- the value before the closing quote at this index, and the rest of the text after the quote
abbrev pub up_to_quote : List ℕ → Option ℕ → Option Part
up_to_quote text None = None
up_to_quote text (Some n) = Some (record { value = take n text; rest = drop (n + 1) text })

-- The raw value before the closing quote. No value that the reader interprets has a quote or a backslash.
abbrev pub value_front : List ℕ → Option Part
value_front text = up_to_quote text (quote_at 0 false text)

-- a tag read from the front of a text, with the rest of the text
pub record TagFront : Type 0 where
  pub name : List ℕ
  pub value : List ℕ
  pub rest : List ℕ

-- a tag with this name and value, if its closing bracket was found
abbrev pub with_end : List ℕ → List ℕ → Option (List ℕ) → Option TagFront
with_end name value None = None
with_end name value (Some rest) = Some (record { name = name; value = value; rest = rest })

-- the end of a tag, after its value
abbrev pub with_value : List ℕ → Option Part → Option TagFront
with_value name None = None
with_value name (Some value) = with_end name value.value (past_byte 93 (past_spaces value.rest))

-- the rest of a tag after its opening quote
abbrev pub with_quote : List ℕ → Option (List ℕ) → Option TagFront
with_quote name None = None
with_quote name (Some text) = with_value name (value_front text)

-- the value and the end of a tag, after its name
abbrev pub with_name : Option Part → Option TagFront
with_name None = None
with_name (Some name) = with_quote name.value (past_byte 34 (past_spaces name.rest))

-- a tag after its opening bracket
unfoldable pub tag_front : List ℕ → Option TagFront
tag_front text = with_name (name_front (past_spaces text))
