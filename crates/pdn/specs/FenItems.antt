-- Parser of the items of a FEN text: a square for a man, `K` and a square for a king, or `a-b` for men on the range of
-- squares.
use Rattle.std.specs.Prelude.{◌≡◌, ℕ, ◌+◌, ◌-◌, ◌*◌, ◌==◌, ◌&&◌, ◌||◌, nat_le, List, [], ◌∷◌, ◌++◌, length, Bool, true}
use Rattle.std.specs.Prelude.{false, Option, Some, None, Result, Ok, Err, if◌then◌else◌}
use Rattle.squares.specs.declared.sides.Side.{Side}
use Rattle.squares.specs.declared.draughts.piece.DPiece.{DPiece}
use Rattle.pdn.specs.declared.items.Item.{Item}
use Rattle.pdn.specs.SquareText.{SquareFront, FrontReading, is_digit, after_zero, read_square}

-- the rest of the text after a byte, if it begins with that byte
abbrev pub past_byte : ℕ → List ℕ → Option (List ℕ)
past_byte byte [] = None
past_byte byte (c ∷ rest) = if c == byte then Some rest else None

-- The last square of a range is not below the first one, `low`. So a digit is accepted as the first of two if the
-- number can still reach `low`.
abbrev pub read_end_second : ℕ → ℕ → List ℕ → FrontReading
read_end_second low first [] = if nat_le low first then Ok (record { square = first; rest = [] }) else Err 1
read_end_second low first (c ∷ rest) =
    if is_digit c && (nat_le (10 * first + (c - 48)) 50 && nat_le low (10 * first + (c - 48)))
    then Ok (record { square = 10 * first + (c - 48); rest = rest })
    else if nat_le low first then Ok (record { square = first; rest = c ∷ rest }) else Err 1

-- whether a number that begins with this digit can be at least `low`
abbrev pub can_begin : ℕ → ℕ → Bool
can_begin low digit = nat_le low digit || (nat_le digit 5 && nat_le low (10 * digit + 9))

-- the last square of a range from `low`, as a number without a leading 0
abbrev pub read_end_number : ℕ → List ℕ → FrontReading
read_end_number low [] = Err 0
read_end_number low (c ∷ rest) = if (nat_le 49 c && nat_le c 57) && can_begin low (c - 48) then read_end_second low
    (c - 48) rest else Err 0

-- the last square of a range from `low`
abbrev pub read_end : ℕ → List ℕ → FrontReading
read_end low [] = Err 0
read_end low (c ∷ rest) = if c == 48 then after_zero (read_end_number low rest) else read_end_number low (c ∷ rest)

-- an item read from the front of a text, with the rest of the text
pub record ItemFront : Type 0 where
  pub item : Item
  pub rest : List ℕ

-- The result of reading an item: the item with its offset, or an error. The error is the length of the longest prefix
-- of the whole text, of `total` bytes, that can begin a FEN text.
abbrev pub ItemReading : Type 0
ItemReading = Result ItemFront ℕ

-- a man of the side
abbrev pub man : Side → DPiece
man side = record { side = side; king = false }

-- a king of the side
abbrev pub king : Side → DPiece
king side = record { side = side; king = true }

-- a king; `at` is the offset of the item, `before` that of its square
abbrev pub king_of : ℕ → ℕ → Side → FrontReading → ItemReading
king_of at before side (Err bytes) = Err (before + bytes)
king_of at before side (Ok front) =
    Ok
    (record { item = record { at = at; from = front.square; to = front.square; piece = king side }; rest = front.rest })

-- a range of men; `at` is the offset of the item, `before` that of its last square
abbrev pub range_of : ℕ → ℕ → Side → ℕ → FrontReading → ItemReading
range_of at before side from (Err bytes) = Err (before + bytes)
range_of at before side from (Ok front) =
    Ok (record { item = record { at = at; from = from; to = front.square; piece = man side }; rest = front.rest })

-- a man, or a range of men after a hyphen
abbrev pub after_man : ℕ → ℕ → Side → SquareFront → Option (List ℕ) → ItemReading
after_man total at side front None =
    Ok
    (record { item = record { at = at; from = front.square; to = front.square; piece = man side }; rest = front.rest })
after_man total at side front (Some rest) =
    range_of at (total - length rest) side front.square (read_end front.square rest)

-- a man, or a range of men, after its first square; `at` is the offset of that square
abbrev pub men_of : ℕ → ℕ → Side → FrontReading → ItemReading
men_of total at side (Err bytes) = Err (at + bytes)
men_of total at side (Ok front) = after_man total at side front (past_byte 45 front.rest)

-- the item at the front of a text: a king after `K`, otherwise a man or a range of men
abbrev pub read_kind : ℕ → Side → List ℕ → Option (List ℕ) → ItemReading
read_kind total side text (Some rest) = king_of (total - length text) (total - length rest) side (read_square rest)
read_kind total side text None = men_of total (total - length text) side (read_square text)

-- the item at the front of a text; `total` is the length of the whole text
unfoldable pub read_item : ℕ → Side → List ℕ → ItemReading
read_item total side text = read_kind total side text (past_byte 75 text)

-- items with the rest of the text
pub record Items : Type 0 where
  pub items : List Item
  pub rest : List ℕ

-- The result of reading a list: its items, or the offset of the first error.
abbrev pub ItemsReading : Type 0
ItemsReading = Result Items ℕ

-- Items separated by commas, appended to the items read before.
pub data ReadsItems (total : ℕ) (side : Side) : List Item → List ℕ → ItemsReading → Type 0 where
  bad_item : (before : List Item) (text : List ℕ) (offset : ℕ)
      → ◌≡◌ {A = ItemReading} (read_item total side text) (Err offset) → ReadsItems total side before text (Err offset)
  last_item : (before : List Item) (text : List ℕ) (item : Item) (rest : List ℕ)
      → ◌≡◌ {A = ItemReading} (read_item total side text) (Ok (record { item = item; rest = rest }))
      → past_byte 44 rest ≡ None → ReadsItems total side before text
      (Ok (record { items = before ++ item ∷ []; rest = rest }))
  more_items : (before : List Item) (text : List ℕ) (item : Item) (rest more : List ℕ) (reading : ItemsReading)
      → ◌≡◌ {A = ItemReading} (read_item total side text) (Ok (record { item = item; rest = rest }))
      → past_byte 44 rest ≡ Some more → ReadsItems total side (before ++ item ∷ []) more reading
      → ReadsItems total side before text reading

-- the end of an empty list: the end of the text, a colon or a dot
abbrev pub ends_list : List ℕ → Bool
ends_list [] = true
ends_list (c ∷ rest) = (c == 58) || (c == 46)

-- a list, which may be empty
pub data ReadsList (total : ℕ) (side : Side) : List Item → List ℕ → ItemsReading → Type 0 where
  no_item : (before : List Item) (text : List ℕ) → ends_list text ≡ true
      → ReadsList total side before text (Ok (record { items = before; rest = text }))
  some_items : (before : List Item) (text : List ℕ) (reading : ItemsReading) → ends_list text ≡ false
      → ReadsItems total side before text reading → ReadsList total side before text reading
