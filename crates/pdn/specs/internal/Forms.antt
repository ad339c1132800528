-- Parser of the form of a move's text: `a-b`, or a capture `axb` with any further squares in between, where `:` may
-- stand for `x`. No promise of the program rests on these definitions.
use Rattle.std.specs.Prelude.{ℕ, ◌==◌, List, [], ◌∷◌, Option, Some, None}
use Rattle.std.specs.Prelude.{if◌then◌else◌}
use Rattle.pdn.specs.Forms.{is_cross}

-- the rest of the text after a hyphen, if it begins with one
abbrev pub past_hyphen : List ℕ → Option (List ℕ)
past_hyphen [] = None
past_hyphen (c ∷ rest) = if c == 45 then Some rest else None

-- the rest of the text after an `x` or `:`, if it begins with one
abbrev pub past_cross : List ℕ → Option (List ℕ)
past_cross [] = None
past_cross (c ∷ rest) = if is_cross c then Some rest else None
