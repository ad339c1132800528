-- Numbers of few digits.
use Rattle.std.proofs.Common.{◌≡◌, ℕ, ◌+◌, ◌*◌, ◌^◌, ◌<◌, ◌≤◌, true, List, ◌∷◌, length, drop, get_or, arith, drop-cons}
use Rattle.std.proofs.Common.{add-one, suc, lit<, ◌-◌}
use Rattle.std.specs.List.{list_all}
use Rattle.std.specs.Char.{is_ascii_digit, digit_value}
use Rattle.std.specs.Str.Parse.{digits_value_after}
use Rattle.std.proofs.Math.Nat.{pow-le-pow_right}
use Rattle.std.proofs.lemmas.Grind.{pow_more, common_steps}
use Rattle.http_head.specs.Head.{is_number}

-- after so many digits there is room for one more
pub has_room : (n i : ℕ) → n < 10 ^ i → i < 9 → n < 100000000
has_room n i small few =
    let most : 10 ^ i ≤ 10 ^ 8 = pow-le-pow_right {n = 10} (lit< tt) {i = i} {j = 8} (omega arith) in
    omega (arith, most)

pub one_digit_more : (n i d : ℕ) → n < 10 ^ i → d < 10 → n * 10 + d < 10 ^ (i + 1)
one_digit_more n i d small digit = rw (pow_more 10 i) (omega arith)

pub few_digits : (text : List ℕ) → is_number text ≡ true → length text < 10
few_digits text h = grind (arith, common_steps)

-- the first of digits alone is a digit, and so are the others
pub first_digit : (x : ℕ) (rest : List ℕ) → list_all is_ascii_digit (x ∷ rest) ≡ true → (48 ≤ x) × (x < 58)
    × (list_all is_ascii_digit rest ≡ true)
first_digit x rest h = (grind (arith, common_steps), grind (arith, common_steps), grind (arith, common_steps))

pub next_digit : (text : List ℕ) (i : ℕ) → i < length text → list_all is_ascii_digit (drop i text) ≡ true
    → (48 ≤ get_or text i 0) × (get_or text i 0 < 58) × (list_all is_ascii_digit (drop (i + 1) text) ≡ true)
next_digit text i h digits =
    rw add-one (first_digit (get_or text i 0) (drop (suc i) text) (rw (drop-cons text i 0) at digits))

digit_is : (x : ℕ) → 48 ≤ x → x < 58 → digit_value x ≡ x - 48
digit_is x low high = grind (arith, common_steps)

-- the value so far and one digit more
pub one_more_value : (text : List ℕ) (i n d whole : ℕ) → i < length text → 48 ≤ get_or text i 0 → get_or text i 0 < 58
    → d ≡ get_or text i 0 - 48
    → digits_value_after 10 n (drop i text) ≡ whole → digits_value_after 10 (n * 10 + d) (drop (i + 1) text) ≡ whole
one_more_value text i n d whole h low high e so_far =
    let value = digit_is (get_or text i 0) low high in
    rw (add-one, e, ← value) (rw (drop-cons text i 0) at so_far)
