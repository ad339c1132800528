-- Bytes that are cut at a byte, and numbers before one.
use Rattle.std.proofs.Common.{◌≡◌, ◌≢◌, ◌<◌, ◌≤◌, ◌^◌, ℕ, zero, suc, List, [], ◌∷◌, ◌++◌, Ok}
use Rattle.std.proofs.Common.{length, get_or, drop, decimal, refl, sym, ap, ◌∙◌, arith}
use Rattle.std.proofs.Common.{length-append}
use Rattle.std.specs.List.{AllByRecursion}
use Rattle.std.proofs.lemmas.List.Elements.{All-from_recursion}
use Rattle.std.proofs.Math.Seq.{get_or-append_seam}
use Rattle.std.proofs.lemmas.Fmt.{decimal_digit, decimal_injective, decimal_is_IsNumeral, decimal-digits_value}
use Rattle.std.proofs.lemmas.Fmt.{first_decimal}
use Rattle.std.proofs.lemmas.Str.Parse.{IsNumeralModel, digit_at, numerals_by_value, parse_plain, tells_digits}
use Rattle.std.specs.Str.Parse.{AllDigits, ParsesUnsigned, digits_value}
use Rattle.control_socket.specs.internal.Reading.{Lacks}

-- ---- what lacks a byte

pub lacks_each : (c : ℕ) (xs : List ℕ) → AllByRecursion (λ x. x ≢ c) xs → Lacks c xs
lacks_each c xs each k h = All-from_recursion (λ x. x ≢ c) xs each k 0 h

pub lacks_cons : (c x : ℕ) (xs : List ℕ) → x ≢ c → Lacks c xs → Lacks c (x ∷ xs)
lacks_cons c x xs other rest zero h e = other e
lacks_cons c x xs other rest (suc k) h e = rest k (omega arith) e

pub lacks_append : (c : ℕ) (xs ys : List ℕ) → Lacks c xs → Lacks c ys → Lacks c (xs ++ ys)
lacks_append c [] ys first second = second
lacks_append c (x ∷ xs) ys first second =
    lacks_cons c x (xs ++ ys) (first 0 (omega arith)) (lacks_append c xs ys (λ k h. first (suc k) (omega arith)) second)

pub lacks_cut : (c : ℕ) (bytes front rest : List ℕ) → Lacks c bytes → bytes ≢ front ++ c ∷ rest
lacks_cut c bytes front rest none e =
    none (length front) (omega (arith, ap length e, length-append front (c ∷ rest)))
    (ap (λ (l : List ℕ). get_or l (length front) 0) e ∙ get_or-append_seam front c rest 0)

-- lists that begin with different bytes
pub apart : (x y : ℕ) (xs ys : List ℕ) → x ≢ y → x ∷ xs ≡ y ∷ ys → ⊥
apart x y xs ys other e = other (ap (λ (l : List ℕ). get_or l 0 0) e)

-- ---- where it stands first

pub cut_unique : (c : ℕ) (a b x y : List ℕ) → Lacks c a → Lacks c x → a ++ c ∷ b ≡ x ++ c ∷ y → (a ≡ x) × (b ≡ y)
cut_unique c [] b [] y la lx e = (refl, ap (drop 1) e)
cut_unique c [] b (w ∷ x) y la lx e = absurd (lx 0 (omega arith) (cc))
cut_unique c (v ∷ a) b [] y la lx e = absurd (la 0 (omega arith) (cc))
cut_unique c (v ∷ a) b (w ∷ x) y la lx e =
    let head : v ≡ w = cc in
    let rest = cut_unique c a b x y (λ k h. la (suc k) (omega arith)) (λ k h. lx (suc k) (omega arith))
    (ap (drop 1) e) in
    (λ i. head i ∷ rest.0 i, rest.1)

-- ---- numbers

pub decimal_lacks : (n c : ℕ) → n < 2 ^ 64 → c < 48 → Lacks c (decimal n)
decimal_lacks n c fits small k h e =
    let range = digit_at (decimal n) k (decimal_is_IsNumeral n fits).0.1 h in omega (arith, range.0, e)

pub number_unique : (c m n : ℕ) (s t : List ℕ) → c < 48 → m < 2 ^ 64 → n < 2 ^ 64
    → decimal m ++ c ∷ s ≡ decimal n ++ c ∷ t → (m ≡ n) × (s ≡ t)
number_unique c m n s t small fm fn e =
    let cut = cut_unique c (decimal m) s (decimal n) t (decimal_lacks m c fm small) (decimal_lacks n c fn small) e in
    (decimal_injective m n fm fn cut.0, cut.1)

zero_alone : (n : ℕ) → n < 2 ^ 64 → get_or (decimal n) 0 0 ≡ 48 → length (decimal n) ≡ 1
zero_alone zero fits e = ap length (decimal_digit 0 (omega arith))
zero_alone (suc n) fits e = omega (arith, first_decimal (suc n) (omega arith) fits, e)

-- no number is written with a sign, or with a zero in front
pub padded_no_decimal : (n : ℕ) (bs : List ℕ) → n < 2 ^ 64
    → (get_or bs 0 0 ≢ 43 → (get_or bs 0 0 ≡ 48) × (1 < length bs)) → bs ≢ decimal n
padded_no_decimal n bs fits padded e =
    let number = decimal_is_IsNumeral n fits in
    let first = digit_at (decimal n) 0 number.0.1 number.0.0 in
    let long = (rw e at padded) (λ h. omega (arith, first.0, h)) in
    omega (arith, long.1, zero_alone n fits long.0)

pub plain_parsed : (E : Type 0) (bs : List ℕ) (m : ℕ) → ParsesUnsigned {E = E} 64 10 bs (Ok m) → get_or bs 0 0 ≢ 43
    → (get_or bs 0 0 ≡ 48 → length bs ≤ 1) → (bs ≡ decimal m) × (m < 2 ^ 64)
plain_parsed E bs m read plus padded =
    let own : IsNumeralModel (AllDigits 10) (digits_value 10) = numerals_by_value _ tells_digits in
    let h = parse_plain own {E = E} 64 bs (Ok m) read plus in
    let alone : get_or bs 0 0 ≡ 48 → length bs ≡ 1 = λ e. omega (arith, padded e, h.0.1) in
    (sym (ap decimal h.1 ∙ decimal-digits_value own bs h.0.0 h.0.1 alone h.0.2), omega (arith, h.1, h.0.2))
