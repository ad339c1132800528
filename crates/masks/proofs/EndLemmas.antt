-- The least and the greatest number of a set that a word names.
use Rattle.std.proofs.Common.{◌≡◌, ℕ, suc, ◌+◌, ◌-◌, ◌*◌, ◌^◌, ◌<◌, ◌≤◌, true, nat_eq, Some, inl, inr}
use Rattle.std.proofs.Common.{sym, ap, ◌∙◌, arith}
use Rattle.std.specs.Int.{bit_at}
use Rattle.std.specs.FinSet as set
use Rattle.std.proofs.lemmas.Bool.{cases_lt}
use Rattle.std.proofs.lemmas.Nat.Bits.{bit_at_cat_high, bit_at_lowest}
use Rattle.masks.specs.Words.{Numbers, has_bit, set_of_word}
use Rattle.masks.specs.internal.Words.{IsLeast, IsGreatest, has_bit_above, contains_at}
use Rattle.masks.specs.internal.Words.{contains_below}
use Rattle.masks.proofs.BitLemmas.{Lowest}

module _ (first count w : ℕ) (h : w < 2 ^ count) (s : Numbers) (is : set_of_word first count w ≡ s) where
  here : (k : ℕ) → has_bit w k ≡ true → set.contains s (first + k) ≡ true
  here k e = ap (λ t. set.contains t (first + k)) (sym is) ∙ contains_at first count w h k ∙ e

  from_first : (q : ℕ) → set.contains s q ≡ true → first ≤ q
  from_first q e =
      elim (cases_lt q first) [
        | inl less ↦ let none = ap (λ t. set.contains t q) (sym is) ∙ contains_below first count w h q less in cc
        | inr past ↦ past
      ]

  bit_of : (q : ℕ) → set.contains s q ≡ true → has_bit w (q - first) ≡ true
  bit_of q e =
      let there : q ≡ first + (q - first) = omega (arith, from_first q e) in
      sym (contains_at first count w h (q - first)) ∙ ap (λ t. set.contains t (first + (q - first))) is
      ∙ ap (set.contains s) (sym there) ∙ e

  pub least_is : (t n : ℕ) → Lowest w t → first + t ≡ n → IsLeast s (Some n)
  least_is t n l e = (
    ap (set.contains s) (sym e) ∙ here t l.set,
    λ q has.
        elim (cases_lt (q - first) t) [
          | inl less ↦ let none = l.none (q - first) less in let one = bit_of q has in cc
          | inr past ↦ omega (arith, from_first q has, e)
        ],
  )

  pub greatest_is : (j n : ℕ) → 2 ^ j ≤ w → w < 2 ^ suc j → first + j ≡ n → IsGreatest s (Some n)
  unfolding has_bit
  greatest_is j n low high e = (
    ap (set.contains s) (sym e)
        ∙ here j
        (ap (λ b. nat_eq b 1)
        (ap (λ v. bit_at v j) (let whole : w ≡ 1 * 2 ^ j + (w - 2 ^ j) = omega arith in whole)
        ∙ bit_at_cat_high 1 j (w - 2 ^ j) j (let rest : w - 2 ^ j < 2 ^ j = omega arith in rest) (omega arith)
        ∙ ap (bit_at 1) (let none : j - j ≡ 0 = omega arith in none) ∙ bit_at_lowest 1)),
    λ q has.
        elim (cases_lt j (q - first)) [
          | inl more ↦ let none = has_bit_above first (suc j) w high (q - first) (omega arith) in
              let one = bit_of q has in cc
          | inr few ↦ omega (arith, from_first q has, e)
        ],
  )
