-- Runs of bytes that pass a test, and squares as runs of digits.
use Rattle.std.proofs.Common.{◌≡◌, ℕ, zero, suc, ◌+◌, ◌-◌, ◌*◌, ◌/◌, ◌%◌, ◌<◌, ◌≤◌, inl, inr, List, [], ◌∷◌, ◌++◌}
use Rattle.std.proofs.Common.{length, take, Bool, true, false, cond, nat_eq, nat_lt, nat_le, ◌&&◌, refl, sym, ap}
use Rattle.std.proofs.Common.{subst, ◌∙◌, arith}
use Rattle.std.proofs.lemmas.Bool.{and_parts, ne_eqb}
use Rattle.std.proofs.lemmas.Bool.Decides.{nat_tests}
use Rattle.squares.specs.internal.DraughtsGeometry.{OnBoard}
use Rattle.pdn.specs.SquareText.{is_digit, square_text}
use Rattle.pdn.specs.internal.Grammar.{IsSquareText}
use Rattle.pdn_games.specs.internal.SkipGrammar.{All}
use Rattle.pdn_games.specs.Lengths.{both, with_second, plain_len, square_len}

pub digit-test : (c : ℕ) → 48 ≤ c → c ≤ 57 → is_digit c ≡ true
digit-test c low high = grind (arith, nat_tests)

-- a digit is none of the other bytes
pub digit-other : (c k : ℕ) → is_digit c ≡ true → is_digit k ≡ false → nat_eq c k ≡ false
digit-other c k is none = ne_eqb c k (λ e. let bad : true ≡ false = sym is ∙ ap is_digit e ∙ none in cc)

-- bytes that all pass do not go beyond one that does not
pub stops-within : (p : ℕ → Bool) (k : ℕ) (text : List ℕ) (c : ℕ) (rest : List ℕ) → All p (take k (text ++ c ∷ rest))
    → p c ≡ false → k ≤ length text
stops-within p zero text c rest all none = omega arith
stops-within p (suc k) [] c rest all none = absurd (let bad : true ≡ false = sym all.0 ∙ none in cc)
stops-within p (suc k) (x ∷ text) c rest all none = let later = stops-within p k text c rest all.1 none in
    omega (arith, later)

-- two texts that pass, one after the other
pub all-append : (p : ℕ → Bool) (xs ys : List ℕ) → All p xs → All p ys → All p (xs ++ ys)
all-append p [] ys all others = others
all-append p (x ∷ xs) ys all others = (all.0, all-append p xs ys all.1 others)

-- what is tested of each byte of a literal
abbrev pub all_pass : (ℕ → Bool) → List ℕ → Bool
all_pass p [] = true
all_pass p (c ∷ text) = p c && all_pass p text

pub pass-all : (p : ℕ → Bool) (text : List ℕ) → all_pass p text ≡ true → All p text
pass-all p [] is = tt
pass-all p (c ∷ text) is = let w = and_parts (p c) (all_pass p text) is in (w.0, pass-all p text w.1)

pub both-sum : (a b : ℕ) → 0 < a → 0 < b → both a b ≡ a + b
both-sum a b first second =
    let one : nat_eq a 0 ≡ false = grind (arith, nat_tests) in
    let two : nat_eq b 0 ≡ false = grind (arith, nat_tests) in
    rw (one, two) refl

pub second-least : (d : ℕ) (rest : List ℕ) → 1 ≤ with_second d rest
second-least d [] = omega arith
second-least d (c ∷ rest) = elim (is_digit c && nat_le (10 * d + (c - 48)) 50) as (λ b. 1 ≤ cond b 2 1)
    [ true ↦ omega arith | false ↦ omega arith ]

-- the text of a number: digits, of which the first is no 0, that are passed whole, whatever follows
record Number (text : List ℕ) : Type 0 where
  pub digits : All is_digit text
  pub some : 0 < length text
  pub no_zero : (rest : List ℕ) → square_len (text ++ rest) ≡ plain_len (text ++ rest)
  pub least : (rest : List ℕ) → length text ≤ plain_len (text ++ rest)

one-digit : (n : ℕ) → 1 ≤ n → n < 10 → Number ((48 + n) ∷ [])
one-digit n low high =
    let other : nat_eq (48 + n) 48 ≡ false = grind (arith, nat_tests) in
    let first : (nat_le 49 (48 + n) && nat_le (48 + n) 57) ≡ true = grind (arith, nat_tests) in
    record {
      digits = (digit-test (48 + n) (omega arith) (omega arith), tt);
      some = omega arith;
      no_zero = λ rest. ap (λ b. cond b (both 1 (plain_len rest)) (plain_len ((48 + n) ∷ rest))) other;
      least = λ rest.
          let whole : plain_len ((48 + n) ∷ rest) ≡ with_second (48 + n - 48) rest =
          ap (λ b. cond b (with_second (48 + n - 48) rest) 0) first in
          let some = second-least (48 + n - 48) rest in
          omega (arith, whole, some);
    }

two-digits : (d e : ℕ) → 49 ≤ d → 48 ≤ e → e ≤ 57 → 10 * (d - 48) + (e - 48) ≤ 50 → Number (d ∷ e ∷ [])
two-digits d e some low high small =
    let other : nat_eq d 48 ≡ false = grind (arith, nat_tests) in
    let first : (nat_le 49 d && nat_le d 57) ≡ true = grind (arith, nat_tests) in
    let digit : is_digit e ≡ true = digit-test e low high in
    let within : nat_le (10 * (d - 48) + (e - 48)) 50 ≡ true = grind (arith, nat_tests) in
    record {
      digits = (digit-test d (omega arith) (omega arith), (digit, tt));
      some = omega arith;
      no_zero = λ rest. ap (λ b. cond b (both 1 (plain_len (e ∷ rest))) (plain_len (d ∷ e ∷ rest))) other;
      least = λ rest.
          let whole : plain_len (d ∷ e ∷ rest) ≡ 2 = rw (first, digit, within) refl in
          omega (arith, whole);
    }

number-is : (n : ℕ) → OnBoard n → Number (square_text n)
number-is n on =
    elim (nat_lt n 10) as (λ b. nat_lt n 10 ≡ b
    → Number (cond b ((48 + n) ∷ []) ((48 + n / 10) ∷ (48 + n % 10) ∷ []))) [
      | true ↦ λ is. one-digit n on.0 (grind (arith, nat_tests, is))
      | false ↦ λ is.
          let low : 10 ≤ n = grind (arith, nat_tests, is) in
          let high = on.1 in
          two-digits (48 + n / 10) (48 + n % 10) (omega arith) (omega arith) (omega arith) (omega (arith, high))
    ] refl

-- the text of a square: digits that are passed whole, whatever follows
pub record Square (text : List ℕ) : Type 0 where
  pub digits : All is_digit text
  pub some : 0 < length text
  pub least : (rest : List ℕ) → length text ≤ square_len (text ++ rest)

pub square-is : (n : ℕ) (text : List ℕ) → IsSquareText n text → Square text
square-is n text (on, inl is) =
    let w = number-is n on in
    subst Square (sym is)
    (record {
      digits = w.digits;
      some = w.some;
      least = λ rest. let same = w.no_zero rest in let least = w.least rest in omega (arith, same, least);
    })
square-is n text (on, inr is) =
    let w = number-is n on in
    let some = w.some in
    subst Square (sym is)
    (record {
      digits = (refl, w.digits);
      some = omega arith;
      least = λ rest.
          let least = w.least rest in
          let whole = both-sum 1 (plain_len (square_text n ++ rest)) (omega arith) (omega (arith, least, some)) in
          omega (arith, whole, least);
    })
