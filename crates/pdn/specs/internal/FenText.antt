-- The written FEN of a position: the side to move, then White's and Black's pieces in ascending order of squares, with
-- `K` before a king. No promise of the program rests on these definitions.
use Rattle.std.specs.Prelude.{ℕ, List, ◌∷◌, Bool, true, false}

-- an item of a list: after a comma, unless it is the first
abbrev pub next_text : Bool → List ℕ → List ℕ
next_text true item = item
next_text false item = 44 ∷ item
