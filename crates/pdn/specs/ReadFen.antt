-- The position that a FEN text denotes.
use Rattle.std.specs.Prelude.{◌≡◌, ℕ, ◌&&◌, nat_le, List, [], ◌∷◌, ◌++◌, fold, Bool, Option, Some, None, Ok}
use Rattle.std.specs.Prelude.{if◌then◌else◌}
use Rattle.std.specs.List.{list_any, range_with_len}
use Rattle.std.specs.FinMap as map
use Rattle.squares.specs.DraughtsBoard.{Board, Position}
use Rattle.pdn.specs.declared.items.Item.{Item}
use Rattle.pdn.specs.FenForm.{FenForm, ReadsForm}

-- whether two items share a square
abbrev pub shares : Item → Item → Bool
shares i j = nat_le i.from j.to && nat_le j.from i.to

-- the offset of the first item that names a square of an earlier item
abbrev pub repeated_after : List Item → List Item → Option ℕ
repeated_after before [] = None
repeated_after before (i ∷ items) = if list_any (shares i) before then Some i.at else repeated_after (before ++ i ∷ [])
    items

-- the offset of the first item that names a square of an earlier item, if there is one
abbrev pub repeated : List Item → Option ℕ
repeated items = repeated_after [] items

-- the board with the item's piece on a square, if the item covers it
abbrev pub put_on : Item → Board → ℕ → Board
put_on i board n = if nat_le i.from n && nat_le n i.to then map.insert board n i.piece else board

-- the board with the item's pieces
unfoldable pub put_item : Board → Item → Board
put_item board i = fold (put_on i) board (range_with_len 1 50)

-- the position that a form denotes
abbrev pub position_of : FenForm → Position
position_of form = record { board = fold put_item map.empty form.items; turn = form.turn }

-- the text denotes the position: it has a form, and no square is named twice
abbrev pub IsFen : List ℕ → Position → Type 0
IsFen text p = (form : FenForm) × ReadsForm text (Ok form) × (repeated form.items ≡ None) × (p ≡ position_of form)
