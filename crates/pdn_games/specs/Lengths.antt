-- The length in bytes of the square, move or move number at the front of a text; 0 if there is none.
use Rattle.std.specs.Prelude.{ℕ, ◌+◌, ◌-◌, ◌*◌, ◌==◌, ◌&&◌, nat_le, List, [], ◌∷◌, length, drop, Bool, if◌then◌else◌}
use Rattle.std.proofs.Common.{zero, suc}
use Rattle.std.specs.List.{prefix_len}
use Rattle.pdn.specs.SquareText.{is_digit}
use Rattle.pdn.specs.Forms.{is_cross}

-- two consecutive parts, if both are present
abbrev pub both : ℕ → ℕ → ℕ
both first second = if first == 0 then 0 else if second == 0 then 0 else first + second

-- the first of two alternatives that is present
abbrev pub either : ℕ → ℕ → ℕ
either first second = if first == 0 then second else first

-- after the first digit of a square, which is counted: a second digit, if the number stays on the board
abbrev pub with_second : ℕ → List ℕ → ℕ
with_second first [] = 1
with_second first (c ∷ rest) = if is_digit c && nat_le (10 * first + (c - 48)) 50 then 2 else 1

-- a number from 1 to 50
abbrev pub plain_len : List ℕ → ℕ
plain_len [] = 0
plain_len (c ∷ rest) = if nat_le 49 c && nat_le c 57 then with_second (c - 48) rest else 0

-- a square: a number from 1 to 50 with at most one leading 0
abbrev pub square_len : List ℕ → ℕ
square_len [] = 0
square_len (c ∷ rest) = if c == 48 then both 1 (plain_len rest) else plain_len (c ∷ rest)

-- a hyphen and a square
abbrev pub step_len : List ℕ → ℕ
step_len [] = 0
step_len (c ∷ rest) = if c == 45 then both 1 (square_len rest) else 0

-- `x` or `:`, and a square
abbrev pub landing_len : List ℕ → ℕ
landing_len [] = 0
landing_len (c ∷ rest) = if is_cross c then both 1 (square_len rest) else 0

-- at most n consecutive landings
unfoldable pub landings_within : ℕ → List ℕ → ℕ
landings_within zero text = 0
landings_within (suc n) text = if landing_len text == 0 then 0 else landing_len text + landings_within n
    (drop (landing_len text) text)

-- all consecutive landings; there are at most as many as bytes
unfoldable pub landings_len : List ℕ → ℕ
landings_len text = landings_within (length text) text

-- the rest of a move after its first square
abbrev pub tail_len : List ℕ → ℕ
tail_len text = either (step_len text) (landings_len text)

-- a move: `a-b`, or `a` and landings
unfoldable pub move_len : List ℕ → ℕ
move_len text = both (square_len text) (tail_len (drop (square_len text) text))

-- a dot
abbrev pub is_dot : ℕ → Bool
is_dot c = c == 46

-- the digits at the front of a text
abbrev pub digits_len : List ℕ → ℕ
digits_len text = prefix_len is_digit text

-- the dots at the front of a text
abbrev pub dots_len : List ℕ → ℕ
dots_len text = prefix_len is_dot text

-- a move number: digits, and one or more dots
unfoldable pub number_len : List ℕ → ℕ
number_len text = both (digits_len text) (dots_len (drop (digits_len text) text))
