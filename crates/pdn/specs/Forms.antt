-- Parser of the form of a move's text: `a-b`, or a capture `axb` with any further squares in between, where `:` may
-- stand for `x`.
use Rattle.std.specs.Prelude.{ℕ, ◌+◌, ◌-◌, ◌==◌, ◌||◌, List, [], ◌∷◌, ◌++◌, length, Bool, Result}
use Rattle.std.specs.Prelude.{Ok, Err, if◌then◌else◌}
use Rattle.std.proofs.Common.{zero, suc}
use Rattle.pdn.specs.SquareText.{FrontReading, read_square}

-- The squares that a text names: the two squares of a quiet move; or the origin, further landing squares and the
-- destination of a capture.
pub data Form : Type 0 where
  quiet : ℕ → ℕ → Form
  capture : ℕ → List ℕ → ℕ → Form

-- The result of parsing a whole text: its form, or the length of its longest prefix that can begin a move's text.
abbrev pub FormReading : Type 0
FormReading = Result Form ℕ

-- the landing squares that a capture names, the last one apart
pub record Landings : Type 0 where
  pub middle : List ℕ
  pub to : ℕ

-- The result of reading landing squares: the squares, or the length of the longest prefix that can begin them.
abbrev pub LandingsReading : Type 0
LandingsReading = Result Landings ℕ

-- `x` or `:`, the mark of a capture
abbrev pub is_cross : ℕ → Bool
is_cross c = (c == 120) || (c == 58)

-- prepends squares that took `before` bytes
abbrev pub after_squares : List ℕ → ℕ → LandingsReading → LandingsReading
after_squares squares before (Err bytes) = Err (before + bytes)
after_squares squares before (Ok l) = Ok (record { middle = squares ++ l.middle; to = l.to })

-- after a landing square: the end, or an `x` or `:` and more landings
abbrev pub at_cross : (List ℕ → LandingsReading) → ℕ → ℕ → List ℕ → LandingsReading
at_cross more total square [] = Ok (record { middle = []; to = square })
at_cross more total square (c ∷ rest) =
    if is_cross c then after_squares (square ∷ []) (total - length rest) (more rest) else Err
    (total - (length rest + 1))

-- a landing square, and what follows it; `more` reads further landing squares
abbrev pub after_landing : (List ℕ → LandingsReading) → ℕ → FrontReading → LandingsReading
after_landing more total (Err bytes) = Err bytes
after_landing more total (Ok front) = at_cross more total front.square front.rest

-- at most n landing squares, separated by `x` or `:`
unfoldable pub read_up_to : ℕ → List ℕ → LandingsReading
read_up_to zero text = Err 0
read_up_to (suc n) text = after_landing (read_up_to n) (length text) (read_square text)

-- landing squares, separated by `x` or `:`; there are at most as many as bytes
unfoldable pub read_landings : List ℕ → LandingsReading
read_landings text = read_up_to (length text) text

-- the capture with these landing squares, which begin at the offset `before`
abbrev pub capture_of : ℕ → ℕ → LandingsReading → FormReading
capture_of from before (Err bytes) = Err (before + bytes)
capture_of from before (Ok l) = Ok (capture from l.middle l.to)

-- the second square of a quiet move, at the offset `before` of a text of `total` bytes
abbrev pub quiet_of : ℕ → ℕ → ℕ → FrontReading → FormReading
quiet_of from before total (Err bytes) = Err (before + bytes)
quiet_of from before total (Ok front) = if length front.rest == 0 then Ok (quiet from front.square) else Err
    (total - length front.rest)

-- after the first square: a hyphen and one square, or an `x` or `:` and landing squares
abbrev pub at_mark : ℕ → ℕ → List ℕ → FormReading
at_mark from total [] = Err total
at_mark from total (c ∷ rest) =
    if c == 45
    then quiet_of from (total - length rest) total (read_square rest)
    else if is_cross c then capture_of from (total - length rest) (read_landings rest) else Err
    (total - (length rest + 1))

-- the form of a move after its first square
abbrev pub read_from : ℕ → FrontReading → FormReading
read_from total (Err bytes) = Err bytes
read_from total (Ok front) = at_mark front.square total front.rest

-- the form of a move's text
unfoldable pub read_form : List ℕ → FormReading
read_form text = read_from (length text) (read_square text)
