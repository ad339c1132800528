-- The parts that are skipped between the tokens of a game's text.
use Rattle.std.specs.Prelude.{ℕ, ◌+◌, ◌-◌, ◌==◌, ◌&&◌, ◌||◌, not, List, [], ◌∷◌, drop, Bool, false, Option, Some, None}
use Rattle.std.specs.Prelude.{if◌then◌else◌}
use Rattle.std.specs.List.{prefix_len}
use Rattle.std.specs.Option.{option_map_or}
use Rattle.pdn_games.specs.declared.skips.Nesting.{Nesting}
use Rattle.pdn_games.specs.Lengths.{digits_len}

-- a space, a tab, a line feed or a carriage return
abbrev pub is_blank : ℕ → Bool
is_blank c = (c == 32 || c == 9) || (c == 10 || c == 13)

-- `!` or `?`
abbrev pub is_mark : ℕ → Bool
is_mark c = c == 33 || c == 63

-- a byte that does not end a line
abbrev pub is_in_line : ℕ → Bool
is_in_line c = not (c == 10)

-- the rest of the text after the first occurrence of a byte, if any
abbrev pub past_first : ℕ → List ℕ → Option (List ℕ)
past_first byte [] = None
past_first byte (c ∷ rest) = if c == byte then Some rest else past_first byte rest

-- The state after one more byte in a variation: braces hide brackets, and None is the end of the outermost pair.
abbrev pub step : Nesting → ℕ → Option Nesting
step n c =
    if n.braced then Some (record { depth = n.depth; braced = not (c == 125) })
    else if c == 40 then Some (record { depth = n.depth + 1; braced = false })
    else if not (c == 41) then Some (record { depth = n.depth; braced = c == 123 })
    else if n.depth == 0 then None
    else Some (record { depth = n.depth - 1; braced = false })

-- the rest of the text after the bracket that closes the outermost pair, if it exists
abbrev pub past_brackets : Nesting → List ℕ → Option (List ℕ)
past_brackets n [] = None
past_brackets n (c ∷ rest) = option_map_or (λ next. past_brackets next rest) (step n c) (Some rest)

-- the rest of the text after one or more digits
abbrev pub past_digits : List ℕ → Option (List ℕ)
past_digits text = if digits_len text == 0 then None else Some (drop (digits_len text) text)

-- the rest of the text after the marks `!` and `?` at its front
abbrev pub past_marks : List ℕ → List ℕ
past_marks text = drop (prefix_len is_mark text) text

-- the rest of the text from the line's end on
abbrev pub past_line : List ℕ → List ℕ
past_line text = drop (prefix_len is_in_line text) text

-- The rest of the text after one skipped part, if there is one. The part is a blank or a line end, a brace comment, `$`
-- and digits, a variation, or a run of `!` and `?`. Comments from `;`, or from `%` at a line's start, extend to its
-- end.
unfoldable pub past_skipped : Bool → List ℕ → Option (List ℕ)
past_skipped begins_line [] = None
past_skipped begins_line (c ∷ rest) =
    if is_blank c then Some rest
    else if c == 123 then past_first 125 rest
    else if c == 36 then past_digits rest
    else if c == 40 then past_brackets (record { depth = 0; braced = false }) rest
    else if is_mark c then Some (past_marks rest)
    else if c == 59 then Some (past_line rest)
    else if begins_line && c == 37 then Some (past_line rest)
    else None
