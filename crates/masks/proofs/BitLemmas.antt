-- Single bits of words. Nothing here names a width but where the code's own words do.
use Rattle.std.proofs.Common.{◌≡◌, ℕ, zero, suc, ◌+◌, ◌-◌, ◌*◌, ◌/◌, ◌%◌, ◌^◌, ◌<◌, ◌≤◌, Bool, true, false, cond}
use Rattle.std.proofs.Common.{nat_eq, ◌||◌, ◌&&◌, not, min, max, ◌⊎◌, ◌≢◌, inl, inr, add_comm, refl, sym, ap, ◌∙◌}
use Rattle.std.proofs.Common.{arith}
use Rattle.std.specs.Int.{bit_at, Width, bit_not, trailing_zeros}
use mir.Val.{bits}
use Rattle.std.specs.Int.Bits.{bit_and}
use Rattle.std.specs.Int.Count.{ones}
use Rattle.std.specs.Int.RustNames.{bit_or}
use Rattle.std.proofs.lemmas.Bool.{cases_eq, cases_order}
use Rattle.std.proofs.lemmas.Grind.{common_steps}
use Rattle.std.proofs.lemmas.Nat.{pow_pos, shr_split, mod_below, ones_cat}
use Rattle.std.proofs.lemmas.Nat.Bits.{shr_and_one, bit_at-lt, bit_at_and, bit_at_or, bit_at_not, bit_at-suc}
use Rattle.std.proofs.lemmas.Nat.Bits.{bit_at_lowest, bit_at_set_same, bit_at_set_other, bit_at_clear_same}
use Rattle.std.proofs.lemmas.Nat.Bits.{bit_at_clear_other, bit_at-trailing_zeros, bit_at_cat_low, bit_at_cat_high}
use Rattle.std.proofs.lemmas.Nat.Bits.{same_from_bits, bit_at-zero, bit_at_above}
use Rattle.masks.specs.Words.{has_bit}
use Rattle.masks.specs.internal.Words.{nat_eq_below, nat_eq_same}

nat_eq_other : (n q : ℕ) → n ≢ q → nat_eq n q ≡ false
nat_eq_other n q h = grind (arith, common_steps)

and_bit : (x y : ℕ) → x < 2 → y < 2 → nat_eq (min x y) 1 ≡ (nat_eq x 1 && nat_eq y 1)
and_bit zero zero h k = refl
and_bit zero (suc zero) h k = refl
and_bit (suc zero) zero h k = refl
and_bit (suc zero) (suc zero) h k = refl
and_bit (suc (suc x)) y h k = absurd (omega arith)
and_bit x (suc (suc y)) h k = absurd (omega arith)

or_bit : (x y : ℕ) → x < 2 → y < 2 → nat_eq (max x y) 1 ≡ (nat_eq x 1 || nat_eq y 1)
or_bit zero zero h k = refl
or_bit zero (suc zero) h k = refl
or_bit (suc zero) zero h k = refl
or_bit (suc zero) (suc zero) h k = refl
or_bit (suc (suc x)) y h k = absurd (omega arith)
or_bit x (suc (suc y)) h k = absurd (omega arith)

not_bit : (x : ℕ) → x < 2 → nat_eq (1 - x) 1 ≡ not (nat_eq x 1)
not_bit zero h = refl
not_bit (suc zero) h = refl
not_bit (suc (suc x)) h = absurd (omega arith)

and_false : (b : Bool) → (b && false) ≡ false
and_false true = refl
and_false false = refl

and_itself : (b : Bool) → (b && b) ≡ b
and_itself true = refl
and_itself false = refl

pub has_bit-test : (w k : ℕ) → nat_eq (bit_and (w / 2 ^ k) 1) 1 ≡ has_bit w k
unfolding has_bit
has_bit-test w k = ap (λ b. nat_eq b 1) (shr_and_one w k)

pub has_bit-zero : (k : ℕ) → has_bit 0 k ≡ false
unfolding has_bit
has_bit-zero k = ap (λ b. nat_eq b 1) (bit_at-zero k)

pub has_bit-and : (a b k : ℕ) → has_bit (bit_and a b) k ≡ (has_bit a k && has_bit b k)
unfolding has_bit
has_bit-and a b k = ap (λ x. nat_eq x 1) (bit_at_and a b k)
    ∙ and_bit (bit_at a k) (bit_at b k) (bit_at-lt a k) (bit_at-lt b k)

pub has_bit-or : (a b k : ℕ) → has_bit (bit_or a b) k ≡ (has_bit a k || has_bit b k)
unfolding has_bit
has_bit-or a b k = ap (λ x. nat_eq x 1) (bit_at_or a b k)
    ∙ or_bit (bit_at a k) (bit_at b k) (bit_at-lt a k) (bit_at-lt b k)

pub has_bit-not : (w : Width) (a k : ℕ) → a < 2 ^ bits w → k < bits w → has_bit (bit_not w a) k ≡ not (has_bit a k)
unfolding has_bit
has_bit-not w a k h below = ap (λ x. nat_eq x 1) (bit_at_not w a k h below) ∙ not_bit (bit_at a k) (bit_at-lt a k)

-- `w | 1 << j` and `w & !(1 << j)`
pub has_bit-set : (w : Width) (a j k : ℕ) → j < bits w
    → has_bit (bit_or a (1 * 2 ^ j % 2 ^ bits w)) k ≡ (nat_eq k j || has_bit a k)
unfolding has_bit
has_bit-set w a j k within =
    elim (cases_eq k j) [
      | inl same ↦
          ap (λ x. nat_eq x 1) (ap (bit_at (bit_or a (1 * 2 ^ j % 2 ^ bits w))) same ∙ bit_at_set_same w a j within)
          ∙ sym (ap (λ b. b || nat_eq (bit_at a k) 1) (nat_eq_same k j same))
      | inr other ↦ ap (λ x. nat_eq x 1) (bit_at_set_other w a j within k other)
          ∙ sym (ap (λ b. b || nat_eq (bit_at a k) 1) (nat_eq_other k j other))
    ]

pub has_bit-clear : (w : Width) (a j k : ℕ) → j < bits w → k < bits w
    → has_bit (bit_and a (bit_not w (1 * 2 ^ j % 2 ^ bits w))) k ≡ (not (nat_eq k j) && has_bit a k)
unfolding has_bit
has_bit-clear w a j k within below =
    elim (cases_eq k j) [
      | inl same ↦
          ap (λ x. nat_eq x 1) (ap (bit_at (bit_and a (bit_not w (1 * 2 ^ j % 2 ^ bits w)))) same
          ∙ bit_at_clear_same w a j within) ∙ sym (ap (λ b. not b && nat_eq (bit_at a k) 1) (nat_eq_same k j same))
      | inr other ↦ ap (λ x. nat_eq x 1) (bit_at_clear_other w a j within k below other)
          ∙ sym (ap (λ b. not b && nat_eq (bit_at a k) 1) (nat_eq_other k j other))
    ]

-- the lowest bit of a word that is not 0
pub record Lowest (w t : ℕ) : Type 0 where
  pub set : has_bit w t ≡ true
  pub none : (k : ℕ) → k < t → has_bit w k ≡ false
  pub clears : (k : ℕ) → has_bit (bit_and w (w - 1)) k ≡ (not (nat_eq k t) && has_bit w k)

-- with its lowest bit at t, w is (2 * q + 1) * 2 ^ t
module _ (w t q : ℕ) (is : w ≡ (2 * q + 1) * 2 ^ t + 0) where
  less_one : w - 1 ≡ (2 * q) * 2 ^ t + (2 ^ t - 1)
  less_one = omega (arith, pow_pos t, is)

  low : (k : ℕ) → k < t → bit_at w k ≡ 0
  low k h = ap (λ v. bit_at v k) is ∙ bit_at_cat_low (2 * q + 1) t 0 k h ∙ bit_at-zero k

  high : (k : ℕ) → t ≤ k → bit_at w k ≡ bit_at (2 * q + 1) (k - t)
  high k h = ap (λ v. bit_at v k) is ∙ bit_at_cat_high (2 * q + 1) t 0 k (pow_pos t) h

  high_less : (k : ℕ) → t ≤ k → bit_at (w - 1) k ≡ bit_at (2 * q) (k - t)
  high_less k h = ap (λ v. bit_at v k) less_one ∙ bit_at_cat_high (2 * q) t (2 ^ t - 1) k (omega (arith, pow_pos t)) h

  clears_at : (k : ℕ) → ((k ≡ t) ⊎ ((k < t) ⊎ (t < k)))
      → has_bit (bit_and w (w - 1)) k ≡ (not (nat_eq k t) && has_bit w k)
  unfolding has_bit
  clears_at k (inl same) =
      let none : bit_at (w - 1) k ≡ 0 = let at_zero : k - t ≡ 0 = omega arith in
      let even : (2 * q) % 2 ≡ 0 = omega arith in
      high_less k (omega arith) ∙ ap (bit_at (2 * q)) at_zero ∙ bit_at_lowest (2 * q) ∙ even in
      has_bit-and w (w - 1) k ∙ ap (λ b. nat_eq (bit_at w k) 1 && nat_eq b 1) none ∙ and_false (nat_eq (bit_at w k) 1)
      ∙ sym (ap (λ b. not b && nat_eq (bit_at w k) 1) (nat_eq_same k t same))
  clears_at k (inr (inl below)) =
      has_bit-and w (w - 1) k ∙ ap (λ b. nat_eq b 1 && nat_eq (bit_at (w - 1) k) 1) (low k below)
      ∙ sym (ap (λ b. not (nat_eq k t) && nat_eq b 1) (low k below) ∙ and_false (not (nat_eq k t)))
  clears_at k (inr (inr above)) =
      let j = k - t - 1 in
      let next : k - t ≡ suc j = omega arith in
      let halves : (2 * q) / 2 ≡ (2 * q + 1) / 2 = omega arith in
      let kept : bit_at (w - 1) k ≡ bit_at w k =
      high_less k (omega arith) ∙ ap (bit_at (2 * q)) next ∙ bit_at-suc (2 * q) j ∙ ap (λ v. bit_at v j) halves
      ∙ sym (high k (omega arith) ∙ ap (bit_at (2 * q + 1)) next ∙ bit_at-suc (2 * q + 1) j) in
      has_bit-and w (w - 1) k ∙ ap (λ b. nat_eq (bit_at w k) 1 && nat_eq b 1) kept ∙ and_itself (nat_eq (bit_at w k) 1)
      ∙ sym (ap (λ b. not b && nat_eq (bit_at w k) 1) (nat_eq_below k t above))

-- the lowest bit is where `trailing_zeros` says, and `w & (w - 1)` clears it
module _ (w t : ℕ) (one : bit_at w t ≡ 1) (none : (k : ℕ) → k < t → bit_at w k ≡ 0) where
  abbrev rest : ℕ
  rest = w % 2 ^ t

  rest-bit : (k : ℕ) → ((k ≡ t) ⊎ ((k < t) ⊎ (t < k))) → bit_at rest k ≡ bit_at 0 k
  rest-bit k (inl same) = bit_at_above rest t k (mod_below w (2 ^ t) (pow_pos t)) (omega arith) ∙ sym (bit_at-zero k)
  rest-bit k (inr (inl below)) =
      sym (bit_at_cat_low (w / 2 ^ t) t rest k below) ∙ ap (λ v. bit_at v k) (shr_split w t) ∙ none k below
      ∙ sym (bit_at-zero k)
  rest-bit k (inr (inr above)) = bit_at_above rest t k (mod_below w (2 ^ t) (pow_pos t)) (omega arith)
      ∙ sym (bit_at-zero k)

  no_rest : rest ≡ 0
  no_rest = same_from_bits rest 0 (λ k. rest-bit k (cases_order k t))

  odd : w / 2 ^ t ≡ 2 * (w / 2 ^ t / 2) + 1
  odd = omega (arith, one)

  shape : w ≡ (2 * (w / 2 ^ t / 2) + 1) * 2 ^ t + 0
  shape = sym (shr_split w t) ∙ (λ i. odd i * 2 ^ t + no_rest i)

  lowest_at : Lowest w t
  unfolding has_bit
  lowest_at = record {
    set = ap (λ b. nat_eq b 1) one;
    none = λ k h. ap (λ b. nat_eq b 1) (none k h);
    clears = λ k. clears_at w t (w / 2 ^ t / 2) shape k (cases_order k t);
  }

pub lowest : (wide : Width) (w : ℕ) → 0 < w → w < 2 ^ bits wide → Lowest w (trailing_zeros wide w)
lowest wide w more h = let l = bit_at-trailing_zeros wide w more h in lowest_at w (trailing_zeros wide w) l.1 l.2

pub nat_eq-same : (m n : ℕ) → nat_eq m n ≡ true → m ≡ n
nat_eq-same m n e = elim (cases_eq m n) [ inl s ↦ s | inr d ↦ let f = nat_eq_other m n d in cc ]

pub positive : (w : ℕ) → w ≢ 0 → 0 < w
positive w e = omega arith

clear_bit : (b : ℕ) → b < 2 → nat_eq b 1 ≡ false → b ≡ 0
clear_bit zero h e = refl
clear_bit (suc zero) h e = cc
clear_bit (suc (suc b)) h e = absurd (omega arith)

-- a word with no bit is 0
pub no_bits : (w : ℕ) → ((k : ℕ) → has_bit w k ≡ false) → w ≡ 0
unfolding has_bit
no_bits w h = same_from_bits w 0 (λ k. clear_bit (bit_at w k) (bit_at-lt w k) (h k) ∙ sym (bit_at-zero k))

pub has_bit-suc : (w k : ℕ) → has_bit w (suc k) ≡ has_bit (w / 2) k
unfolding has_bit
has_bit-suc w k = ap (λ b. nat_eq b 1) (bit_at-suc w k)

pub has_bit-first : (w : ℕ) → has_bit w 0 ≡ nat_eq (w % 2) 1
unfolding has_bit
has_bit-first w = ap (λ b. nat_eq b 1) (bit_at_lowest w)

ones_of : (b : ℕ) → b < 2 → cond (nat_eq b 1) 1 0 ≡ ones b
unfolding ones
ones_of zero h = refl
ones_of (suc zero) h = refl
ones_of (suc (suc b)) h = absurd (omega arith)

pub ones_halved : (w : ℕ) → cond (nat_eq (w % 2) 1) 1 0 + ones (w / 2) ≡ ones w
ones_halved w =
    let below : w % 2 < 2 = omega arith in
    let parts : (w / 2) * 2 ^ 1 + w % 2 ≡ w = omega arith in
    ap (λ k. k + ones (w / 2)) (ones_of (w % 2) below) ∙ add_comm (ones (w % 2)) (ones (w / 2))
    ∙ sym (ones_cat 1 (w / 2) (w % 2) below) ∙ ap ones parts
