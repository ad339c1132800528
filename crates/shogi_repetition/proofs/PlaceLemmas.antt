-- The places of a list at which a test passes, how many they are, and what holds from each place to the next.
use Rattle.std.proofs.Common.{◌≡◌, ℕ, zero, suc, ◌+◌, ◌<◌, ◌≤◌, Bool, true, false, ◌&&◌, cond, List, [], ◌∷◌}
use Rattle.std.proofs.Common.{length, drop, get_or, refl, ap, ◌∙◌, arith}
use Rattle.std.specs.List.{count_by, list_all, zip}
use Rattle.std.proofs.lemmas.Bool.{and_parts}
use Rattle.std.proofs.lemmas.List.Sums.{sum_by-cons}

module _ {X : Type 0} (test : X → Bool) (d : X) where
  count_by-more : (x : X) (xs : List X) (b : Bool) → test x ≡ b
      → count_by test (x ∷ xs) ≡ cond b 1 0 + count_by test xs
  count_by-more x xs b e = sum_by-cons (λ y. cond (test y) 1 0) x xs ∙ ap (λ b. cond b 1 0 + count_by test xs) e

  -- after a place that is not the last of its kind there is a next one
  abbrev pub Next : List X → ℕ → Type 0
  Next xs k = (a : ℕ) × (k ≤ a) × (a < length xs) × (test (get_or xs a d) ≡ true)
      × (count_by test (drop k xs) ≡ 1 + count_by test (drop (suc a) xs))

  later : (x : X) (xs : List X) (k : ℕ) → Next xs k → Next (x ∷ xs) (suc k)
  later x xs k (a, least, within, passes, counts) = (suc a, omega (arith, least), omega (arith, within), passes, counts)

  pub next : (xs : List X) (k : ℕ) → 1 ≤ count_by test (drop k xs) → Next xs k
  next [] zero h = absurd (omega (arith, h))
  next [] (suc k) h = absurd (omega (arith, h))
  next (x ∷ xs) (suc k) h = later x xs k (next xs k h)
  next (x ∷ xs) zero h =
      elim (test x) as (λ b. test x ≡ b → Next (x ∷ xs) zero) [
        | true ↦ λ e. (zero, omega arith, omega arith, e, count_by-more x xs true e)
        | false ↦ λ e. let same = count_by-more x xs false e in
            let rest = next xs zero (omega (arith, h, same)) in
            (suc rest.0, omega arith, omega (arith, rest.2), rest.3, omega (arith, same, rest.4))
      ] refl

  -- each place that passes counts
  pub counted : (xs : List X) (k a : ℕ) → k ≤ a → a < length xs → test (get_or xs a d) ≡ true
      → 1 + count_by test (drop (suc a) xs) ≤ count_by test (drop k xs)
  counted [] k a least within passes = absurd (omega (arith, within))
  counted (x ∷ xs) zero zero least within passes = omega (arith, count_by-more x xs true passes)
  counted (x ∷ xs) zero (suc a) least within passes =
      let rest = counted xs zero a (omega arith) (omega (arith, within)) passes in
      elim (test x) as (λ b. test x ≡ b → 1 + count_by test (drop (suc a) xs) ≤ count_by test (x ∷ xs)) [
        | true ↦ λ e. omega (arith, count_by-more x xs true e, rest)
        | false ↦ λ e. omega (arith, count_by-more x xs false e, rest)
      ] refl
  counted (x ∷ xs) (suc k) zero least within passes = absurd (omega (arith, least))
  counted (x ∷ xs) (suc k) (suc a) least within passes =
      counted xs k a (omega (arith, least)) (omega (arith, within)) passes

-- what holds from each place to the next
module _ {X : Type 0} (rel : X → X → Bool) (d : X) where
  abbrev pub Steps : List X → Type 0
  Steps xs = (k : ℕ) → suc k < length xs → rel (get_or xs k d) (get_or xs (suc k) d) ≡ true

  pub steps : (xs : List X) → list_all (λ e. rel e.0 e.1) (zip xs (drop 1 xs)) ≡ true → Steps xs
  steps [] e k h = absurd (omega (arith, h))
  steps (x ∷ []) e k h = absurd (omega (arith, h))
  steps (x ∷ y ∷ ys) e zero h = (and_parts (rel x y) (list_all (λ e. rel e.0 e.1) (zip (y ∷ ys) ys)) e).0
  steps (x ∷ y ∷ ys) e (suc k) h = steps (y ∷ ys)
      (and_parts (rel x y) (list_all (λ e. rel e.0 e.1) (zip (y ∷ ys) ys)) e).1 k (omega (arith, h))

  pub stepped : (xs : List X) → Steps xs → list_all (λ e. rel e.0 e.1) (zip xs (drop 1 xs)) ≡ true
  stepped [] s = refl
  stepped (x ∷ []) s = refl
  stepped (x ∷ y ∷ ys) s =
      let here = s zero (omega arith) in
      let rest = stepped (y ∷ ys) (λ k h. s (suc k) (omega (arith, h))) in
      λ i. here i && rest i
