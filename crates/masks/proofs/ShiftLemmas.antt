-- Words that are shifted by some bits.
use Rattle.std.proofs.Common.{◌≡◌, ℕ, ◌+◌, ◌-◌, ◌*◌, ◌/◌, ◌%◌, ◌^◌, ◌<◌, ◌≤◌, false, nat_eq, inl, inr, sym}
use Rattle.std.proofs.Common.{ap, ◌∙◌, arith}
use Rattle.std.specs.Int.{bit_at}
use Rattle.std.specs.Int.Bits.{bit_and}
use Rattle.std.specs.FinSet as set
use Rattle.std.proofs.Math.Pow.{mod-mod-pow}
use Rattle.std.proofs.lemmas.Bool.{cases_lt}
use Rattle.std.proofs.lemmas.Nat.{pow_pos, shr_split, mod_below, and_mask, shr_le}
use Rattle.std.proofs.lemmas.Nat.Bits.{bit_at_cat_low, bit_at_cat_high, bit_at-zero}
use Rattle.masks.specs.Words.{has_bit, set_of_word}
use Rattle.masks.specs.internal.Words.{contains_at, contains_below}

-- the low bits of a word
low_bit : (x count j : ℕ) → j < count → bit_at (x % 2 ^ count) j ≡ bit_at x j
low_bit x count j h = sym (bit_at_cat_low (x / 2 ^ count) count (x % 2 ^ count) j h)
    ∙ ap (λ v. bit_at v j) (shr_split x count)

shifted_up : (w k j : ℕ) → k ≤ j → bit_at (w * 2 ^ k) j ≡ bit_at w (j - k)
shifted_up w k j h = ap (λ v. bit_at v j) (let e : w * 2 ^ k ≡ w * 2 ^ k + 0 = omega arith in e)
    ∙ bit_at_cat_high w k 0 j (pow_pos k) h

shifted_in : (w k j : ℕ) → j < k → bit_at (w * 2 ^ k) j ≡ 0
shifted_in w k j h = ap (λ v. bit_at v j) (let e : w * 2 ^ k ≡ w * 2 ^ k + 0 = omega arith in e)
    ∙ bit_at_cat_low w k 0 j h ∙ bit_at-zero j

shifted_down : (w k j : ℕ) → bit_at (w / 2 ^ k) j ≡ bit_at w (j + k)
shifted_down w k j =
    sym (bit_at_cat_high (w / 2 ^ k) k (w % 2 ^ k) (j + k) (mod_below w (2 ^ k) (pow_pos k)) (omega arith)
    ∙ ap (bit_at (w / 2 ^ k)) (let e : j + k - k ≡ j = omega arith in e))
    ∙ ap (λ v. bit_at v (j + k)) (shr_split w k)

module _ (first count w k : ℕ) (h : w < 2 ^ count) where
  abbrev up : ℕ
  up = w * 2 ^ k % 2 ^ count

  up_small : up < 2 ^ count
  up_small = mod_below (w * 2 ^ k) (2 ^ count) (pow_pos count)

  raised-in : (q : ℕ) → first + k ≤ q → q < first + count
      → set.contains (set_of_word first count up) q ≡ set.contains (set_of_word first count w) (q - k)
  unfolding has_bit
  raised-in q low high =
      let j = q - first in
      ap (set.contains (set_of_word first count up)) (let e : q ≡ first + j = omega arith in e)
      ∙ contains_at first count up up_small j
      ∙ ap (λ b. nat_eq b 1) (low_bit (w * 2 ^ k) count j (omega arith) ∙ shifted_up w k j (omega arith))
      ∙ sym (contains_at first count w h (j - k))
      ∙ ap (set.contains (set_of_word first count w)) (let e : first + (j - k) ≡ q - k = omega arith in e)

  raised-out : (q : ℕ) → q < first + k → k ≤ count → set.contains (set_of_word first count up) q ≡ false
  unfolding has_bit
  raised-out q less fits =
      elim (cases_lt q first) [
        | inl below ↦ contains_below first count up up_small q below
        | inr from ↦
            let j = q - first in
            ap (set.contains (set_of_word first count up)) (let e : q ≡ first + j = omega arith in e)
            ∙ contains_at first count up up_small j
            ∙ ap (λ b. nat_eq b 1) (low_bit (w * 2 ^ k) count j (omega arith) ∙ shifted_in w k j (omega arith))
      ]

  module _ (more v : ℕ) (is : v ≡ bit_and (w * 2 ^ k % 2 ^ (more + count)) (2 ^ count - 1)) where
    up_is : v ≡ up
    up_is = is ∙ and_mask (w * 2 ^ k % 2 ^ (more + count)) count ∙ mod-mod-pow (w * 2 ^ k) more count

    pub raised_small : v < 2 ^ count
    raised_small = omega (arith, up_is, up_small)

    pub raised_at : (q : ℕ) → first + k ≤ q → q < first + count
        → set.contains (set_of_word first count v) q ≡ set.contains (set_of_word first count w) (q - k)
    raised_at q low high = ap (λ x. set.contains (set_of_word first count x) q) up_is ∙ raised-in q low high

    pub raised_left : (q : ℕ) → q < first + k → k ≤ count → set.contains (set_of_word first count v) q ≡ false
    raised_left q less fits = ap (λ x. set.contains (set_of_word first count x) q) up_is ∙ raised-out q less fits

  pub lowered_small : w / 2 ^ k < 2 ^ count
  lowered_small = omega (arith, shr_le w k)

  pub lowered_at : (q : ℕ) → first ≤ q → set.contains (set_of_word first count (w / 2 ^ k)) q
      ≡ set.contains (set_of_word first count w) (q + k)
  unfolding has_bit
  lowered_at q from =
      let j = q - first in
      ap (set.contains (set_of_word first count (w / 2 ^ k))) (let e : q ≡ first + j = omega arith in e)
      ∙ contains_at first count (w / 2 ^ k) lowered_small j
      ∙ ap (λ b. nat_eq b 1) (shifted_down w k j)
      ∙ sym (contains_at first count w h (j + k))
      ∙ ap (set.contains (set_of_word first count w)) (let e : first + (j + k) ≡ q + k = omega arith in e)
