-- Whether a FEN text denotes the initial position of draughts, as a function. No promise of the program rests on these
-- definitions.
use Rattle.std.specs.Prelude.{ℕ, zero, suc, List, [], ◌∷◌, ◌++◌, length, Bool, false, Option, Some, None, Ok, Err}
use Rattle.std.specs.Prelude.{if◌then◌else◌}
use Rattle.squares.specs.declared.sides.Side.{Side}
use Rattle.squares.specs.Sides.{other}
use Rattle.squares.specs.DraughtsOpening.{opening}
use Rattle.squares.specs.DraughtsSamePosition.{same_position}
use Rattle.pdn.specs.declared.items.Item.{Item}
use Rattle.pdn.specs.FenItems.{past_byte, ItemReading, read_item, ItemsReading, ends_list}
use Rattle.pdn.specs.FenForm.{Header, HeaderReading, read_header, RestReading, read_between, past_end, FenReading}
use Rattle.pdn.specs.FenForm.{FenForm}
use Rattle.pdn.specs.ReadFen.{repeated, position_of}

-- after an item: a comma and more items, or the end of the list
abbrev pub after_item : (List Item → List ℕ → ItemsReading) → List Item → List ℕ → Option (List ℕ) → ItemsReading
after_item more items rest None = Ok (record { items = items; rest = rest })
after_item more items rest (Some text) = more items text

-- the rest of a list after one more item, or the error of the item
abbrev pub with_item : (List Item → List ℕ → ItemsReading) → List Item → ItemReading → ItemsReading
with_item more before (Err offset) = Err offset
with_item more before (Ok front) = after_item more (before ++ front.item ∷ []) front.rest (past_byte 44 front.rest)

-- a list of at most n items, separated by commas
abbrev pub items_reading : ℕ → ℕ → Side → List Item → List ℕ → ItemsReading
items_reading zero total side before text = Err 0
items_reading (suc n) total side before text =
    with_item (λ items rest. items_reading n total side items rest) before (read_item total side text)

-- a list of at most n items, which may be empty
abbrev pub list_reading : ℕ → ℕ → Side → List Item → List ℕ → ItemsReading
list_reading n total side before text =
    if ends_list text then Ok (record { items = before; rest = text }) else items_reading n total side before text

-- the form of a text, or the offset of what follows its end
abbrev pub ended_reading : Side → List Item → Option ℕ → FenReading
ended_reading turn items (Some offset) = Err offset
ended_reading turn items None = Ok (record { turn = turn; items = items })

-- the form of a text after its second list
abbrev pub second_reading : ℕ → Side → ItemsReading → FenReading
second_reading total turn (Err offset) = Err offset
second_reading total turn (Ok list) = ended_reading turn list.items (past_end total list.rest)

-- the form of a text after the colon and the letter between its lists
abbrev pub between_reading : ℕ → ℕ → Header → List Item → RestReading → FenReading
between_reading n total header items (Err offset) = Err offset
between_reading n total header items (Ok rest) =
    second_reading total header.turn (list_reading n total (other header.first) items rest)

-- the form of a text after its first list
abbrev pub first_reading : ℕ → ℕ → Header → ItemsReading → FenReading
first_reading n total header (Err offset) = Err offset
first_reading n total header (Ok list) =
    between_reading n total header list.items (read_between total header.first list.rest)

-- the form of a text after its header
abbrev pub header_reading : ℕ → ℕ → HeaderReading → FenReading
header_reading n total (Err offset) = Err offset
header_reading n total (Ok header) = first_reading n total header (list_reading n total header.first [] header.rest)

-- the form of a text, which has at most as many items as bytes
unfoldable pub form_reading : List ℕ → FenReading
form_reading text = header_reading (length text) (length text) (read_header text)

-- whether a form denotes the initial position; false if an item names a square again
abbrev pub is_opening_unless : FenForm → Option ℕ → Bool
is_opening_unless form (Some offset) = false
is_opening_unless form None = same_position (position_of form) opening

-- whether a parsed text denotes the initial position
abbrev pub is_opening_form : FenReading → Bool
is_opening_form (Err offset) = false
is_opening_form (Ok form) = is_opening_unless form (repeated form.items)

-- whether a text denotes the initial position
abbrev pub is_opening : List ℕ → Bool
is_opening text = is_opening_form (form_reading text)
