-- The text of a square: its number from 1 to 50 in decimal, written without a leading 0, read with at most one.
use Rattle.std.specs.Prelude.{ℕ, ◌+◌, ◌-◌, ◌*◌, ◌/◌, ◌%◌, ◌==◌, ◌&&◌, nat_lt, nat_le, List, [], ◌∷◌, Bool, Result, Ok}
use Rattle.std.specs.Prelude.{Err, if◌then◌else◌}

-- the text of a square
abbrev pub square_text : ℕ → List ℕ
square_text n = if nat_lt n 10 then (48 + n) ∷ [] else (48 + n / 10) ∷ (48 + n % 10) ∷ []

-- a decimal digit
abbrev pub is_digit : ℕ → Bool
is_digit c = nat_le 48 c && nat_le c 57

-- a square read from the front of a text, with the rest of the text
pub record SquareFront : Type 0 where
  pub square : ℕ
  pub rest : List ℕ

-- The result of reading a square: the square and the rest of the text, or the number of bytes that can begin a square's
-- text.
abbrev pub FrontReading : Type 0
FrontReading = Result SquareFront ℕ

-- the second digit, if one follows and the number stays on the board
abbrev pub read_second : ℕ → List ℕ → FrontReading
read_second first [] = Ok (record { square = first; rest = [] })
read_second first (c ∷ rest) =
    if is_digit c && nat_le (10 * first + (c - 48)) 50
    then Ok (record { square = 10 * first + (c - 48); rest = rest })
    else Ok (record { square = first; rest = c ∷ rest })

-- a number without a leading 0
abbrev pub read_number : List ℕ → FrontReading
read_number [] = Err 0
read_number (c ∷ rest) = if nat_le 49 c && nat_le c 57 then read_second (c - 48) rest else Err 0

-- the result after one more byte
abbrev pub after_zero : FrontReading → FrontReading
after_zero (Ok front) = Ok front
after_zero (Err bytes) = Err (bytes + 1)

-- the square at the front of a text
abbrev pub read_square : List ℕ → FrontReading
read_square [] = Err 0
read_square (c ∷ rest) = if c == 48 then after_zero (read_number rest) else read_number (c ∷ rest)
