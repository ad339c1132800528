-- Bitboards: sets of numbers kept in the bits of a word, in which bit k is the number `first + k`. No promise of the
-- program rests on these definitions.
use Rattle.std.proofs.Common.{◌≡◌, ℕ, zero, suc, ◌+◌, ◌-◌, ◌*◌, ◌%◌, ◌^◌, ◌<◌, ◌≤◌, Bool, true, false, cond, nat_eq}
use Rattle.std.proofs.Common.{◌||◌, ◌⊎◌, inl, inr, Option, Some, None, List, [], ◌∷◌, refl, sym, ap, ◌∙◌, arith}
use Rattle.std.specs.Int.{bit_at}
use Rattle.std.specs.FinSet as set
use Rattle.std.specs.List.{list_any}
use Rattle.std.proofs.lemmas.Bool.{cases_eq}
use Rattle.std.proofs.lemmas.Grind.{common_steps}
use Rattle.std.proofs.Math.Nat.{mod-eq_of_lt}
use Rattle.std.proofs.lemmas.Nat.{mod-pow-add}
use Rattle.std.proofs.lemmas.Nat.Bits.{bit_at-lt, bit_at_above}
use Rattle.masks.specs.Words.{Numbers, has_bit, passing, set_of_word, word_of}

-- The numbers of a set within `first .. first + count`, in ascending order.
unfoldable pub ascending : ℕ → ℕ → Numbers → List ℕ
ascending first count s = passing (set.contains s) first count

-- The result and the remaining set when the least number is popped.
abbrev pub Pops : ℕ → ℕ → Numbers → Option ℕ → Numbers → Type 0
Pops first count before None after = (before ≡ set.empty) × (ascending first count before ≡ []) × (after ≡ before)
Pops first count before (Some n) after = (ascending first count before ≡ n ∷ ascending first count after)
    × (after ≡ set.remove before n) × (first ≤ n) × (n < first + count) × (set.contains before n ≡ true)

-- The least number of a set, or `None` if it is empty.
abbrev pub IsLeast : Numbers → Option ℕ → Type 0
IsLeast s None = s ≡ set.empty
IsLeast s (Some n) = (set.contains s n ≡ true) × ((q : ℕ) → set.contains s q ≡ true → n ≤ q)

-- The greatest number of a set, or `None` if it is empty.
abbrev pub IsGreatest : Numbers → Option ℕ → Type 0
IsGreatest s None = s ≡ set.empty
IsGreatest s (Some n) = (set.contains s n ≡ true) × ((q : ℕ) → set.contains s q ≡ true → q ≤ n)

pub nat_eq_below : (n q : ℕ) → q < n → nat_eq n q ≡ false
nat_eq_below n q h = grind (arith, common_steps)

pub nat_eq_above : (n q : ℕ) → n < q → nat_eq n q ≡ false
nat_eq_above n q h = grind (arith, common_steps)

pub nat_eq_same : (n q : ℕ) → n ≡ q → nat_eq n q ≡ true
nat_eq_same n q h = grind (arith, common_steps)

-- Membership in `passing`.
module _ (test : ℕ → Bool) where
  pub passing-below : (first count q : ℕ) → q < first → list_any (λ y. nat_eq y q) (passing test first count) ≡ false
  unfolding passing
  passing-below first zero q h = refl
  passing-below first (suc count) q h =
      elim (test first) as (λ b. list_any (λ y. nat_eq y q)
      (cond b (first ∷ passing test (suc first) count) (passing test (suc first) count)) ≡ false) [
        | true ↦ ap (λ b. b || list_any (λ y. nat_eq y q) (passing test (suc first) count)) (nat_eq_below first q h)
            ∙ passing-below (suc first) count q (omega arith)
        | false ↦ passing-below (suc first) count q (omega arith)
      ]

  pub passing-at : (first count q : ℕ) → first ≤ q → q < first + count
      → list_any (λ y. nat_eq y q) (passing test first count) ≡ test q
  unfolding passing
  passing-at first zero q h below = absurd (omega arith)
  passing-at first (suc count) q h below =
      let rest = list_any (λ y. nat_eq y q) (passing test (suc first) count) in
      elim (cases_eq first q) [
        | inl same ↦
            elim (test first) as (λ b. test first ≡ b
            →
            list_any (λ y. nat_eq y q)
            (cond b (first ∷ passing test (suc first) count) (passing test (suc first) count)) ≡ test q) [
              | true ↦ λ is. ap (λ b. b || rest) (nat_eq_same first q same) ∙ sym is ∙ ap test same
              | false ↦ λ is. passing-below (suc first) count q (omega arith) ∙ sym is ∙ ap test same
            ] refl
        | inr other ↦
            elim (test first) as (λ b. list_any (λ y. nat_eq y q)
            (cond b (first ∷ passing test (suc first) count) (passing test (suc first) count)) ≡ test q) [
              | true ↦ ap (λ b. b || rest) (nat_eq_above first q (omega arith))
                  ∙ passing-at (suc first) count q (omega arith) (omega arith)
              | false ↦ passing-at (suc first) count q (omega arith) (omega arith)
            ]
      ]

  pub passing-past : (first count q : ℕ) → first + count ≤ q
      → list_any (λ y. nat_eq y q) (passing test first count) ≡ false
  unfolding passing
  passing-past first zero q h = refl
  passing-past first (suc count) q h =
      let rest = list_any (λ y. nat_eq y q) (passing test (suc first) count) in
      elim (test first) as (λ b. list_any (λ y. nat_eq y q)
      (cond b (first ∷ passing test (suc first) count) (passing test (suc first) count)) ≡ false) [
        | true ↦ ap (λ b. b || rest) (nat_eq_above first q (omega arith))
            ∙ passing-past (suc first) count q (omega arith)
        | false ↦ passing-past (suc first) count q (omega arith)
      ]

-- Membership in the set of a word of `count` bits.
module _ (first count w : ℕ) (h : w < 2 ^ count) where
  pub contains_below : (q : ℕ) → q < first → set.contains (set_of_word first count w) q ≡ false
  unfolding set_of_word
  contains_below q below = set.contains-from_list_nat (passing (λ n. has_bit w (n - first)) first count) q
      ∙ passing-below (λ n. has_bit w (n - first)) first count q below

  pub has_bit_above : (k : ℕ) → count ≤ k → has_bit w k ≡ false
  unfolding has_bit
  has_bit_above k above = ap (λ b. nat_eq b 1) (bit_at_above w count k h above)

  contains_from : (q : ℕ) → first ≤ q → ((q < first + count) ⊎ (first + count ≤ q))
      → set.contains (set_of_word first count w) q ≡ has_bit w (q - first)
  unfolding set_of_word
  contains_from q from (inl inside) = set.contains-from_list_nat (passing (λ n. has_bit w (n - first)) first count) q
      ∙ passing-at (λ n. has_bit w (n - first)) first count q from inside
  contains_from q from (inr past) =
      set.contains-from_list_nat (passing (λ n. has_bit w (n - first)) first count) q
      ∙ passing-past (λ n. has_bit w (n - first)) first count q past
      ∙ sym (has_bit_above (q - first) (omega arith))

  lt_or_le : (a b : ℕ) → (a < b) ⊎ (b ≤ a)
  lt_or_le a zero = inr (omega arith)
  lt_or_le zero (suc b) = inl (omega arith)
  lt_or_le (suc a) (suc b) = elim (lt_or_le a b) [ inl c ↦ inl (omega arith) | inr c ↦ inr (omega arith) ]

  pub contains_at : (k : ℕ) → set.contains (set_of_word first count w) (first + k) ≡ has_bit w k
  contains_at k = contains_from (first + k) (omega arith) (lt_or_le (first + k) (first + count))
      ∙ ap (has_bit w) (omega arith)

  pub contains_past : (q : ℕ) → first + count ≤ q → set.contains (set_of_word first count w) q ≡ false
  unfolding set_of_word
  contains_past q past = set.contains-from_list_nat (passing (λ n. has_bit w (n - first)) first count) q
      ∙ passing-past (λ n. has_bit w (n - first)) first count q past

-- A word is recovered from its set.
bit_of : (b : ℕ) → b < 2 → cond (nat_eq b 1) 1 0 ≡ b
bit_of zero h = refl
bit_of (suc zero) h = refl
bit_of (suc (suc b)) h = absurd (omega arith)

module _ (first count w : ℕ) (h : w < 2 ^ count) where
  low_bits : (n : ℕ) → word_of first n (set_of_word first count w) ≡ w % 2 ^ n
  unfolding word_of has_bit
  low_bits zero = omega arith
  low_bits (suc n) =
      (λ i. cond (contains_at first count w h n i) 1 0 * 2 ^ n + low_bits n i)
      ∙ ap (λ b. b * 2 ^ n + w % 2 ^ n) (bit_of (bit_at w n) (bit_at-lt w n))
      ∙ sym (mod-pow-add w 1 n) ∙ ap (λ k. w % 2 ^ k) (omega arith)

pub word_back : (first count w : ℕ) → w < 2 ^ count → word_of first count (set_of_word first count w) ≡ w
word_back first count w h = low_bits first count w h count ∙ mod-eq_of_lt h
