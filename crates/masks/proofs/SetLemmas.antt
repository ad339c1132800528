-- What is done with words is done with the sets that they name.
use Rattle.std.proofs.Common.{◌≡◌, ℕ, zero, suc, ◌+◌, ◌-◌, ◌*◌, ◌%◌, ◌^◌, ◌<◌, ◌≤◌, Bool, true, false, cond, nat_eq}
use Rattle.std.proofs.Common.{◌||◌, ◌&&◌, not, ◌⊎◌, inl, inr, Some, None, List, [], ◌∷◌, length, ◌/◌, refl, sym, ap}
use Rattle.std.proofs.Common.{◌∙◌, subst, arith}
use Rattle.std.specs.Prelude.{IsTrue, ◌↔◌}
use Rattle.std.specs.Int.{Width, bit_not}
use mir.Val.{bits}
use Rattle.std.specs.Int.Bits.{bit_and}
use Rattle.std.specs.Int.Count.{ones}
use Rattle.std.specs.Int.RustNames.{bit_or}
use Rattle.std.specs.Ordering.{nat_cmp}
use Rattle.std.specs.Cmp.{nat_cmp_total, unsigned_tied}
use Rattle.std.specs.FinSet as set
use Rattle.std.specs.FinSet.{nat_cmp-IsAntisymmetric}
use Rattle.std.proofs.lemmas.Bool.{cases_order}
use Rattle.std.proofs.Math.Nat.{pow-suc}
use Rattle.std.proofs.lemmas.Nat.{or_lt, and_le_l, one_shl, pow_below}
use Rattle.masks.specs.Words.{Numbers, has_bit, passing, set_of_word, word_of}
use Rattle.masks.specs.internal.Words.{ascending, word_back, Pops}
use Rattle.masks.specs.internal.Words.{contains_below, contains_at, has_bit_above, nat_eq_above, nat_eq_below}
use Rattle.masks.specs.internal.Words.{nat_eq_same}
use Rattle.masks.specs.internal.Words.{passing-below}
use Rattle.masks.proofs.BitLemmas.{no_bits, nat_eq-same, has_bit-suc, has_bit-first, ones_halved, has_bit-and}
use Rattle.masks.proofs.BitLemmas.{has_bit-or, has_bit-not, has_bit-set, has_bit-clear, has_bit-zero, Lowest}

abbrev SameSet : Numbers → Numbers → Type 0
SameSet s t = (q : ℕ) → set.contains s q ≡ set.contains t q

same : (s t : Numbers) → SameSet s t → s ≡ t
same s t h = set.same_set nat_cmp_total nat_cmp-IsAntisymmetric s t h

-- a set is that of a word if it has nothing below `first`, and the numbers from there on as the word has its bits
module _ (first count w : ℕ) (s : Numbers) (h : w < 2 ^ count) (below : (q : ℕ) → q < first → set.contains s q ≡ false)
    (at : (k : ℕ) → set.contains s (first + k) ≡ has_bit w k) where
  from_first : (q k : ℕ) → q ≡ first + k → set.contains (set_of_word first count w) q ≡ set.contains s q
  from_first q k e = ap (set.contains (set_of_word first count w)) e ∙ contains_at first count w h k ∙ sym (at k)
      ∙ ap (set.contains s) (sym e)

  at_any : (q : ℕ) → ((q ≡ first) ⊎ ((q < first) ⊎ (first < q)))
      → set.contains (set_of_word first count w) q ≡ set.contains s q
  at_any q (inl e) = from_first q 0 (omega arith)
  at_any q (inr (inl less)) = contains_below first count w h q less ∙ sym (below q less)
  at_any q (inr (inr more)) = from_first q (q - first) (omega arith)

  pub is_word : set_of_word first count w ≡ s
  is_word = same (set_of_word first count w) s (λ q. at_any q (cases_order q first))

contains-insert_nat : (s : Numbers) (n q : ℕ) → set.contains (set.insert s n) q ≡ (nat_eq q n || set.contains s q)
contains-insert_nat s n q = set.contains-insert nat_cmp_total s n q
    ∙ ap (λ b. b || set.contains s q) (unsigned_tied q n)

contains-remove_nat : (s : Numbers) (n q : ℕ) → set.contains (set.remove s n) q ≡ (not (nat_eq q n) && set.contains s q)
contains-remove_nat s n q = set.contains-remove nat_cmp_total s n q
    ∙ ap (λ b. not b && set.contains s q) (unsigned_tied q n)

and_false : (b : Bool) → (b && false) ≡ false
and_false true = refl
and_false false = refl

shifted : (first k j : ℕ) → nat_eq (first + k) (first + j) ≡ nat_eq k j
shifted first k j =
    elim (cases_order k j) [
      | inl e ↦ nat_eq_same (first + k) (first + j) (omega arith) ∙ sym (nat_eq_same k j e)
      | inr (inl less) ↦ nat_eq_above (first + k) (first + j) (omega arith) ∙ sym (nat_eq_above k j less)
      | inr (inr more) ↦ nat_eq_below (first + k) (first + j) (omega arith) ∙ sym (nat_eq_below k j more)
    ]

pow_le : (j k : ℕ) → j ≤ k → 2 ^ j ≤ 2 ^ k
pow_le j k h =
    elim (cases_order j k) [
      | inl e ↦ omega (arith, ap (λ n. 2 ^ n) e)
      | inr (inl less) ↦
          omega (arith, pow_below j k less)
      | inr (inr more) ↦ absurd (omega arith)
    ]

pub empty_word : (first count w : ℕ) → w ≡ 0 → w < 2 ^ count → set_of_word first count w ≡ set.empty
empty_word first count w e h =
    is_word first count w set.empty h (λ q _. set.contains-empty nat_cmp q)
    (λ k. set.contains-empty nat_cmp (first + k) ∙ sym (ap (λ v. has_bit v k) e ∙ has_bit-zero k))

module _ (first count : ℕ) where
  module _ (a b : ℕ) (ha : a < 2 ^ count) (hb : b < 2 ^ count) where
    abbrev A : Numbers
    A = set_of_word first count a

    abbrev B : Numbers
    B = set_of_word first count b

    pub union_word : set_of_word first count (bit_or a b) ≡ set.union A B
    union_word =
        is_word first count (bit_or a b) (set.union A B) (or_lt count a b ha hb)
        (λ q less. set.contains-union nat_cmp_total A B q
        ∙ (λ i. contains_below first count a ha q less i || contains_below first count b hb q less i))
        (λ k. set.contains-union nat_cmp_total A B (first + k)
        ∙ (λ i. contains_at first count a ha k i || contains_at first count b hb k i) ∙ sym (has_bit-or a b k))

    and_small : bit_and a b < 2 ^ count
    and_small = omega (arith, and_le_l a b)

    pub intersection_word : set_of_word first count (bit_and a b) ≡ set.intersection A B
    intersection_word =
        is_word first count (bit_and a b) (set.intersection A B) and_small
        (λ q less. set.contains-intersection nat_cmp_total A B q
        ∙ (λ i. contains_below first count a ha q less i && contains_below first count b hb q less i))
        (λ k. set.contains-intersection nat_cmp_total A B (first + k)
        ∙ (λ i. contains_at first count a ha k i && contains_at first count b hb k i) ∙ sym (has_bit-and a b k))

    -- `a & !b`, at a width that holds the numbers
    module _ (wide : Width) (fits : count ≤ bits wide) where
      wide_b : b < 2 ^ bits wide
      wide_b = omega (arith, pow_le count (bits wide) fits)

      past_wide : (k : ℕ) → count ≤ k → has_bit (bit_and a (bit_not wide b)) k ≡ (has_bit a k && not (has_bit b k))
      past_wide k h = has_bit-and a (bit_not wide b) k
          ∙ ap (λ c. c && has_bit (bit_not wide b) k) (has_bit_above first count a ha k h)
          ∙ sym (ap (λ c. c && not (has_bit b k)) (has_bit_above first count a ha k h))

      below_wide : (k : ℕ) → ((k ≡ count) ⊎ ((k < count) ⊎ (count < k)))
          → has_bit (bit_and a (bit_not wide b)) k ≡ (has_bit a k && not (has_bit b k))
      below_wide k (inr (inl less)) = has_bit-and a (bit_not wide b) k
          ∙ ap (λ c. has_bit a k && c) (has_bit-not wide b k wide_b (omega arith))
      below_wide k (inl e) = past_wide k (omega arith)
      below_wide k (inr (inr more)) = past_wide k (omega arith)

      pub difference_word : set_of_word first count (bit_and a (bit_not wide b)) ≡ set.difference A B
      difference_word =
          is_word first count (bit_and a (bit_not wide b)) (set.difference A B)
          (omega (arith, and_le_l a (bit_not wide b)))
          (λ q less. set.contains-difference nat_cmp_total A B q
          ∙ (λ i. contains_below first count a ha q less i && not (contains_below first count b hb q less i)))
          (λ k.
          set.contains-difference nat_cmp_total A B (first + k)
          ∙ (λ i. contains_at first count a ha k i && not (contains_at first count b hb k i))
          ∙ sym (below_wide k (cases_order k count)))

  -- `w | 1 << j` and `w & !(1 << j)`, for the number n that bit j stands for
  module _ (wide : Width) (w j n : ℕ) (h : w < 2 ^ count) (fits : count ≤ bits wide) (inside : j < count)
      (is : first + j ≡ n) where
    abbrev W : Numbers
    W = set_of_word first count w

    pub with_small : bit_or w (1 * 2 ^ j % 2 ^ bits wide) < 2 ^ count
    with_small = or_lt count w (1 * 2 ^ j % 2 ^ bits wide) h
        (omega (arith, one_shl j (bits wide) (omega arith), pow_below j count inside))

    pub with_word : set_of_word first count (bit_or w (1 * 2 ^ j % 2 ^ bits wide)) ≡ set.insert W n
    with_word =
        is_word first count (bit_or w (1 * 2 ^ j % 2 ^ bits wide)) (set.insert W n) with_small
        (λ q less. contains-insert_nat W n q
        ∙ (λ i. nat_eq_above q n (omega arith) i || contains_below first count w h q less i))
        (λ k.
        contains-insert_nat W n (first + k)
        ∙ (λ i. (ap (nat_eq (first + k)) (sym is) ∙ shifted first k j) i || contains_at first count w h k i)
        ∙ sym (has_bit-set wide w j k (omega arith)))

    without_past : (k : ℕ) → count ≤ k → has_bit (bit_and w (bit_not wide (1 * 2 ^ j % 2 ^ bits wide))) k
        ≡ (not (nat_eq k j) && has_bit w k)
    without_past k more =
        has_bit-and w (bit_not wide (1 * 2 ^ j % 2 ^ bits wide)) k
        ∙ ap (λ c. c && has_bit (bit_not wide (1 * 2 ^ j % 2 ^ bits wide)) k) (has_bit_above first count w h k more)
        ∙ sym (ap (λ c. not (nat_eq k j) && c) (has_bit_above first count w h k more) ∙ and_false (not (nat_eq k j)))

    without_at : (k : ℕ) → ((k ≡ count) ⊎ ((k < count) ⊎ (count < k)))
        → has_bit (bit_and w (bit_not wide (1 * 2 ^ j % 2 ^ bits wide))) k ≡ (not (nat_eq k j) && has_bit w k)
    without_at k (inr (inl less)) = has_bit-clear wide w j k (omega arith) (omega arith)
    without_at k (inl e) = without_past k (omega arith)
    without_at k (inr (inr more)) = without_past k (omega arith)

    pub without_word : set_of_word first count (bit_and w (bit_not wide (1 * 2 ^ j % 2 ^ bits wide))) ≡ set.remove W n
    without_word =
        is_word first count (bit_and w (bit_not wide (1 * 2 ^ j % 2 ^ bits wide))) (set.remove W n)
        (omega (arith, and_le_l w (bit_not wide (1 * 2 ^ j % 2 ^ bits wide))))
        (λ q less. contains-remove_nat W n q ∙ ap (λ c. not (nat_eq q n) && c) (contains_below first count w h q less)
        ∙ and_false (not (nat_eq q n)))
        (λ k.
        contains-remove_nat W n (first + k)
        ∙ (λ i. not ((ap (nat_eq (first + k)) (sym is) ∙ shifted first k j) i) && contains_at first count w h k i)
        ∙ sym (without_at k (cases_order k count)))

    pub has_word : has_bit w j ≡ set.contains W n
    has_word = sym (contains_at first count w h j) ∙ ap (set.contains W) is

-- the first number that passes, and the others
passing-same : (f g : ℕ → Bool) (first count : ℕ) → ((q : ℕ) → first ≤ q → f q ≡ g q)
    → passing f first count ≡ passing g first count
unfolding passing
passing-same f g first zero h = refl
passing-same f g first (suc count) h = λ i.
    cond (h first (omega arith) i) (first ∷ passing-same f g (suc first) count (λ q k. h q (omega arith)) i)
    (passing-same f g (suc first) count (λ q k. h q (omega arith)) i)

pub passing-none : (f : ℕ → Bool) (first count : ℕ) → ((q : ℕ) → f q ≡ false) → passing f first count ≡ []
unfolding passing
passing-none f first zero h = refl
passing-none f first (suc count) h =
    ap (λ b. cond b (first ∷ passing f (suc first) count) (passing f (suc first) count)) (h first)
    ∙ passing-none f (suc first) count h

passing-first : (f g : ℕ → Bool) (first count n : ℕ) → first ≤ n → n < first + count → f n ≡ true
    → ((q : ℕ) → q < n → f q ≡ false) → ((q : ℕ) → g q ≡ (not (nat_eq q n) && f q))
    → passing f first count ≡ n ∷ passing g first count
unfolding passing
passing-first f g first zero n low high this none others = absurd (omega arith)
passing-first f g first (suc count) n low high this none others =
    elim (cases_order first n) [
      | inl e ↦
          let at : f first ≡ true = ap f e ∙ this in
          let gone : g first ≡ false = others first ∙ ap (λ b. not b && f first) (nat_eq_same first n e) in
          ap (λ b. cond b (first ∷ passing f (suc first) count) (passing f (suc first) count)) at
          ∙ ap (λ m. m ∷ passing f (suc first) count) e
          ∙ ap (λ xs. n ∷ xs)
          (passing-same f g (suc first) count (λ q k.
          sym (others q ∙ ap (λ b. not b && f q) (nat_eq_below q n (omega arith)))))
          ∙ sym (ap (λ b. n ∷ cond b (first ∷ passing g (suc first) count) (passing g (suc first) count)) gone)
      | inr (inl less) ↦
          let at : f first ≡ false = none first less in
          let gone : g first ≡ false = others first ∙ ap (λ b. not (nat_eq first n) && b) at
          ∙ and_false (not (nat_eq first n)) in
          ap (λ b. cond b (first ∷ passing f (suc first) count) (passing f (suc first) count)) at
          ∙ passing-first f g (suc first) count n (omega arith) (omega arith) this none others
          ∙ sym (ap (λ b. n ∷ cond b (first ∷ passing g (suc first) count) (passing g (suc first) count)) gone)
      | inr (inr more) ↦ absurd (omega arith)
    ]

-- `w & (w - 1)` pops the lowest number
module _ (first count w t n : ℕ) (h : w < 2 ^ count) (l : Lowest w t) (inside : t < count) (is : first + t ≡ n) where
  abbrev V : Numbers
  V = set_of_word first count w

  pub popped_small : bit_and w (w - 1) < 2 ^ count
  popped_small = omega (arith, and_le_l w (w - 1))

  popped : set_of_word first count (bit_and w (w - 1)) ≡ set.remove V n
  popped =
      is_word first count (bit_and w (w - 1)) (set.remove V n) popped_small
      (λ q less. contains-remove_nat V n q ∙ ap (λ c. not (nat_eq q n) && c) (contains_below first count w h q less)
      ∙ and_false (not (nat_eq q n)))
      (λ k.
      contains-remove_nat V n (first + k)
      ∙ (λ i. not ((ap (nat_eq (first + k)) (sym is) ∙ shifted first k t) i) && contains_at first count w h k i)
      ∙ sym (l.clears k))

  none_from : (q k : ℕ) → q ≡ first + k → k < t → set.contains V q ≡ false
  none_from q k e less = ap (set.contains V) e ∙ contains_at first count w h k ∙ l.none k less

  none_before : (q : ℕ) → q < n → ((q ≡ first) ⊎ ((q < first) ⊎ (first < q))) → set.contains V q ≡ false
  none_before q less (inr (inl below)) = contains_below first count w h q below
  none_before q less (inl e) = none_from q 0 (omega arith) (omega arith)
  none_before q less (inr (inr more)) = none_from q (q - first) (omega arith) (omega arith)

  pub pops : Pops first count V (Some n) (set_of_word first count (bit_and w (w - 1)))
  unfolding ascending
  pops = (
    passing-first (set.contains V) (set.contains (set_of_word first count (bit_and w (w - 1)))) first count n
        (omega arith) (omega arith)
        (ap (set.contains V) (sym is) ∙ contains_at first count w h t ∙ l.set)
        (λ q less. none_before q less (cases_order q first))
        (λ q. ap (λ s. set.contains s q) popped ∙ contains-remove_nat V n q),
    popped,
    omega arith,
    omega arith,
    ap (set.contains V) (sym is) ∙ contains_at first count w h t ∙ l.set,
  )

module _ (first count w : ℕ) (h : w < 2 ^ count) (s : Numbers) (is : set_of_word first count w ≡ s) where
  no_bit : (s ≡ set.empty) → (k : ℕ) → has_bit w k ≡ false
  no_bit e k = sym (contains_at first count w h k) ∙ ap (λ t. set.contains t (first + k)) (is ∙ e)
      ∙ set.contains-empty nat_cmp (first + k)

  pub is_empty_word : IsTrue (nat_eq w 0) ↔ (s ≡ set.empty)
  is_empty_word =
      (λ t. sym is ∙ empty_word first count w (nat_eq-same w 0 t) h, λ e. nat_eq_same w 0 (no_bits w (no_bit e)))

  pub pops_nothing : w ≡ 0 → Pops first count s None s
  unfolding ascending
  pops_nothing z =
      let none : s ≡ set.empty = sym is ∙ empty_word first count w z h in (
        none,
        passing-none (set.contains s) first count
            (λ q. ap (λ t. set.contains t q) none ∙ set.contains-empty nat_cmp q),
        refl,
      )

  lowest_inside : (t : ℕ) → Lowest w t → ((t ≡ count) ⊎ ((t < count) ⊎ (count < t))) → t < count
  lowest_inside t l (inr (inl less)) = less
  lowest_inside t l (inl e) = let never : true ≡ false = sym l.set ∙ has_bit_above first count w h t (omega arith) in cc
  lowest_inside t l (inr (inr more)) = let never : true ≡ false = sym l.set
      ∙ has_bit_above first count w h t (omega arith) in cc

  pub lowest_below : (t : ℕ) → Lowest w t → t < count
  lowest_below t l = lowest_inside t l (cases_order t count)

  pub pops_lowest : (t n : ℕ) → Lowest w t → first + t ≡ n
      → Pops first count s (Some n) (set_of_word first count (bit_and w (w - 1)))
  pops_lowest t n l at = subst (λ u. Pops first count u (Some n) (set_of_word first count (bit_and w (w - 1)))) is
      (pops first count w t n h l (lowest_below t l) at)

-- how many numbers a word names
one_more : (n : ℕ) → n + 1 ≡ suc n
one_more n = omega arith

nothing_left : (n : ℕ) → n - n ≡ 0
nothing_left n = omega arith

less_one : (q first : ℕ) → suc first ≤ q → q - first ≡ suc (q - suc first)
less_one q first h = omega arith

two_powers : (k : ℕ) → 2 ^ suc k ≡ 2 ^ k * 2
two_powers k = pow-suc 2 k

added : (b : Bool) (x : ℕ) (xs : List ℕ) → length (cond b (x ∷ xs) xs) ≡ cond b 1 0 + length xs
added true x xs = omega arith
added false x xs = omega arith

len-passing : (test : ℕ → Bool) (first count : ℕ)
    → set.len (set.from_list {R = nat_cmp} (passing test first count)) ≡ length (passing test first count)
unfolding passing
len-passing test first zero = set.len-empty nat_cmp
len-passing test first (suc count) =
    let rest = passing test (suc first) count in
    let fresh : set.contains (set.from_list {R = nat_cmp} rest) first ≡ false = set.contains-from_list_nat rest first
    ∙ passing-below test (suc first) count first (omega arith) in
    elim (test first) as (λ b. set.len (set.from_list {R = nat_cmp} (cond b (first ∷ rest) rest))
    ≡ length (cond b (first ∷ rest) rest)) [
      | true ↦
          set.len-insert nat_cmp_total (set.from_list rest) first
          ∙ ap
          (λ b. cond b (set.len (set.from_list {R = nat_cmp} rest))
          (set.len (set.from_list {R = nat_cmp} rest) + 1)) fresh
          ∙ ap (λ k. k + 1) (len-passing test (suc first) count) ∙ one_more (length rest)
      | false ↦ len-passing test (suc first) count
    ]

passing-count : (first count w : ℕ) → w < 2 ^ count → length (passing (λ n. has_bit w (n - first)) first count) ≡ ones w
unfolding passing ones
passing-count first zero w h = let none : 0 ≡ w = omega arith in ap ones none
passing-count first (suc count) w h =
    let test = λ (n : ℕ). has_bit w (n - first) in
    let next = λ (n : ℕ). has_bit (w / 2) (n - suc first) in
    let rest : passing test (suc first) count ≡ passing next (suc first) count =
    passing-same test next (suc first) count
    (λ q k. ap (has_bit w) (less_one q first k) ∙ has_bit-suc w (q - suc first)) in
    let counted : length (passing next (suc first) count) ≡ ones (w / 2) =
    passing-count (suc first) count (w / 2) (omega (arith, two_powers count)) in
    ap (λ b. length (cond b (first ∷ passing test (suc first) count) (passing test (suc first) count)))
    (ap (has_bit w) (nothing_left first) ∙ has_bit-first w)
    ∙ ap (λ xs. length (cond (nat_eq (w % 2) 1) (first ∷ xs) xs)) rest
    ∙ added (nat_eq (w % 2) 1) first (passing next (suc first) count)
    ∙ (λ i. cond (nat_eq (w % 2) 1) 1 0 + counted i) ∙ ones_halved w

pub len_word : (first count w : ℕ) → w < 2 ^ count → ones w ≡ set.len (set_of_word first count w)
unfolding set_of_word
len_word first count w h = sym (len-passing (λ n. has_bit w (n - first)) first count ∙ passing-count first count w h)

-- two words are one if their sets are
pub same_words : (first count a b : ℕ) (s t : Numbers) → a < 2 ^ count → b < 2 ^ count → set_of_word first count a ≡ s
    → set_of_word first count b ≡ t → IsTrue (nat_eq a b) ↔ (s ≡ t)
same_words first count a b s t ha hb is_s is_t = (
  λ e. sym is_s ∙ ap (set_of_word first count) (nat_eq-same a b e) ∙ is_t,
  λ e. nat_eq_same a b (sym (word_back first count a ha) ∙ ap (word_of first count) (is_s ∙ e ∙ sym is_t)
      ∙ word_back first count b hb),
)
