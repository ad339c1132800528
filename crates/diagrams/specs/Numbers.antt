-- Numbers in columns.
use Rattle.std.specs.Prelude.{ℕ, ◌+◌, ◌/◌, ◌%◌, List, [], ◌∷◌, nat_lt, if◌then◌else◌}

-- The tens digit of a number below 100; a space if it is 0.
abbrev pub tens_sign : ℕ → ℕ
tens_sign n = if nat_lt n 10 then 32 else 48 + n / 10

-- A number below 100, right-aligned in two columns.
abbrev pub number_text : ℕ → List ℕ
number_text n = tens_sign n ∷ (48 + n % 10) ∷ []
