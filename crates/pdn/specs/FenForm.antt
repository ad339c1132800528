-- Parser of the form of a FEN text: the side to move, White's list and Black's list in either order, separated by
-- colons, and an optional dot.
use Rattle.std.specs.Prelude.{◌≡◌, ℕ, ◌-◌, ◌==◌, List, [], ◌∷◌, length, Option, Some, None, Result, Ok, Err}
use Rattle.std.specs.Prelude.{if◌then◌else◌}
use Rattle.squares.specs.declared.sides.Side.{Side}
use Rattle.squares.specs.declared.sides.Side.TheVariants.{First, Second}
use Rattle.squares.specs.Sides.{other, same_side}
use Rattle.pdn.specs.declared.items.Item.{Item}
use Rattle.pdn.specs.FenItems.{past_byte, Items, ReadsList}

-- a side read from the front of a text, with the rest of the text
pub record SideFront : Type 0 where
  pub side : Side
  pub rest : List ℕ

-- the side that the letter at the front of a text names, `W` for White or `B` for Black
abbrev pub read_side : List ℕ → Option SideFront
read_side [] = None
read_side (c ∷ rest) = if c == 87 then Some (record { side = First; rest = rest }) else if c == 66 then Some
    (record { side = Second; rest = rest }) else None

-- the side to move, and the side of the first list
pub record Header : Type 0 where
  pub turn : Side
  pub first : Side
  pub rest : List ℕ

-- The result of reading a header: the header, or the length of the longest prefix that can begin one.
abbrev pub HeaderReading : Type 0
HeaderReading = Result Header ℕ

-- the letter of the first list, which ends the header
abbrev pub header_first : Side → Option SideFront → HeaderReading
header_first turn None = Err 2
header_first turn (Some front) = Ok (record { turn = turn; first = front.side; rest = front.rest })

-- the rest of a header after the colon that follows the side to move
abbrev pub header_colon : Side → Option (List ℕ) → HeaderReading
header_colon turn None = Err 1
header_colon turn (Some rest) = header_first turn (read_side rest)

-- the rest of a header after the letter of the side to move
abbrev pub header_turn : Option SideFront → HeaderReading
header_turn None = Err 0
header_turn (Some front) = header_colon front.side (past_byte 58 front.rest)

-- the header of a text: the side to move, a colon, and the letter of the first list
abbrev pub read_header : List ℕ → HeaderReading
read_header text = header_turn (read_side text)

-- The result of reading a part of a text: the text after it, or the offset of the first error.
abbrev pub RestReading : Type 0
RestReading = Result (List ℕ) ℕ

-- the letter of the second list, which must be that of the other side; `before` is its offset
abbrev pub other_list : ℕ → Side → Option SideFront → RestReading
other_list before listed None = Err before
other_list before listed (Some front) = if same_side front.side listed then Err before else Ok front.rest

-- the letter of the second list after a colon, which must be present
abbrev pub after_colon : ℕ → Side → List ℕ → Option (List ℕ) → RestReading
after_colon total listed text None = Err (total - length text)
after_colon total listed text (Some rest) = other_list (total - length rest) listed (read_side rest)

-- between the lists: a colon and a letter
abbrev pub read_between : ℕ → Side → List ℕ → RestReading
read_between total listed text = after_colon total listed text (past_byte 58 text)

-- the offset of the rest of the text, if it is not empty
abbrev pub left_over : ℕ → List ℕ → Option ℕ
left_over total [] = None
left_over total (c ∷ rest) = Some (total - length (c ∷ rest))

-- the offset of what follows an optional dot, if anything does
abbrev pub after_dot : ℕ → List ℕ → Option (List ℕ) → Option ℕ
after_dot total text None = left_over total text
after_dot total text (Some rest) = left_over total rest

-- the offset of the first byte after the end of the text, which is one optional dot
abbrev pub past_end : ℕ → List ℕ → Option ℕ
past_end total text = after_dot total text (past_byte 46 text)

-- the side to move, and the items of both lists in textual order
pub record FenForm : Type 0 where
  pub turn : Side
  pub items : List Item

-- The result of parsing a whole text: its form, or the length of its longest prefix that can begin a FEN text.
abbrev pub FenReading : Type 0
FenReading = Result FenForm ℕ

-- the second list, and the end
pub data ReadsRest (total : ℕ) (turn second : Side) (before : List Item) (text : List ℕ) : FenReading → Type 0 where
  bad_second : (offset : ℕ) → ReadsList total second before text (Err offset)
      → ReadsRest total turn second before text (Err offset)
  bad_end : (list : Items) (offset : ℕ) → ReadsList total second before text (Ok list)
      → past_end total list.rest ≡ Some offset → ReadsRest total turn second before text (Err offset)
  ended : (list : Items) → ReadsList total second before text (Ok list) → past_end total list.rest ≡ None
      → ReadsRest total turn second before text (Ok (record { turn = turn; items = list.items }))

-- both lists
pub data ReadsLists (total : ℕ) (header : Header) : FenReading → Type 0 where
  bad_first : (offset : ℕ) → ReadsList total header.first [] header.rest (Err offset)
      → ReadsLists total header (Err offset)
  bad_between : (list : Items) (offset : ℕ) → ReadsList total header.first [] header.rest (Ok list)
      → ◌≡◌ {A = RestReading} (read_between total header.first list.rest) (Err offset)
      → ReadsLists total header (Err offset)
  both : (list : Items) (rest : List ℕ) (reading : FenReading) → ReadsList total header.first [] header.rest (Ok list)
      → ◌≡◌ {A = RestReading} (read_between total header.first list.rest) (Ok rest)
      → ReadsRest total header.turn (other header.first) list.items rest reading → ReadsLists total header reading

pub data ReadsForm (text : List ℕ) : FenReading → Type 0 where
  bad_header : (offset : ℕ) → ◌≡◌ {A = HeaderReading} (read_header text) (Err offset) → ReadsForm text (Err offset)
  lists : (header : Header) (reading : FenReading) → ◌≡◌ {A = HeaderReading} (read_header text) (Ok header)
      → ReadsLists (length text) header reading → ReadsForm text reading
