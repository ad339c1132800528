-- The length of the longest suffix of a list whose elements pass a test. No promise of the program rests on these
-- definitions.
use Rattle.std.proofs.Common.{◌≡◌, ℕ, zero, suc, ◌+◌, ◌-◌, ◌≤◌, Bool, true, false, ◌&&◌, cond, List, [], ◌∷◌, ◌++◌}
use Rattle.std.proofs.Common.{length, drop, refl, sym, ap, ◌∙◌, arith, length-append}
use Rattle.std.specs.Prelude.{nat_le, reverse}
use Rattle.std.specs.List.{list_all, prefix_len, suffix_len}
use Rattle.std.proofs.lemmas.Grind.{common_steps}
use Rattle.std.proofs.lemmas.List.{reverse-append, reverse-reverse, drop_all}
use Rattle.std.proofs.lemmas.List.Folds.{list_all-append}

module _ {X : Type 0} (test : X → Bool) where
  -- One more element.
  pub suffix_len-more : (xs : List X) (x : X)
      → suffix_len test (xs ++ x ∷ []) ≡ cond (test x) (1 + suffix_len test xs) 0
  suffix_len-more xs x = ap (prefix_len test) (reverse-append xs (x ∷ []))

  -- The last n elements pass the test.
  abbrev pub end_so : ℕ → List X → Bool
  end_so n xs = nat_le n (length xs) && list_all test (drop (length xs - n) xs)

  none-so : (xs : List X) → end_so 0 xs ≡ true
  none-so xs = let e : drop (length xs - 0) xs ≡ [] = drop_all (length xs - 0) xs (omega arith) in
      rw e (grind (arith, common_steps))

  drop-more : (k : ℕ) (xs : List X) (x : X) → k ≤ length xs → drop k (xs ++ x ∷ []) ≡ drop k xs ++ x ∷ []
  drop-more zero xs x h = refl
  drop-more (suc k) [] x h = absurd (omega (arith, h))
  drop-more (suc k) (y ∷ xs) x h = drop-more k xs x (omega (arith, h))

  shorter : (n m : ℕ) → nat_le (suc n) (m + 1) ≡ nat_le n m
  shorter n m = grind (arith, common_steps)

  last-so : (a b : Bool) → (a && (b && true)) ≡ cond b a false
  last-so true true = refl
  last-so true false = refl
  last-so false true = refl
  last-so false false = refl

  fails : (b c : Bool) → b ≡ false → (b && c) ≡ false
  fails b c e = ap (λ x. x && c) e

  never : (b : Bool) → false ≡ cond b false false
  never true = refl
  never false = refl

  so-more : (n : ℕ) (xs : List X) (x : X) → end_so (suc n) (xs ++ x ∷ []) ≡ cond (test x) (end_so n xs) false
  so-more n xs x =
      let long : length (xs ++ x ∷ []) ≡ length xs + 1 = length-append xs (x ∷ []) in
      let at : length (xs ++ x ∷ []) - suc n ≡ length xs - n = omega (arith, long) in
      let cut : drop (length (xs ++ x ∷ []) - suc n) (xs ++ x ∷ []) ≡ drop (length xs - n) xs ++ x ∷ [] =
      ap (λ k. drop k (xs ++ x ∷ [])) at ∙ drop-more (length xs - n) xs x (omega arith) in
      let all : list_all test (drop (length (xs ++ x ∷ []) - suc n) (xs ++ x ∷ []))
      ≡ cond (test x) (list_all test (drop (length xs - n) xs)) false =
      ap (list_all test) cut ∙ list_all-append test (drop (length xs - n) xs) (x ∷ [])
      ∙ last-so (list_all test (drop (length xs - n) xs)) (test x) in
      let enough : nat_le (suc n) (length (xs ++ x ∷ [])) ≡ nat_le n (length xs) = ap (nat_le (suc n)) long
      ∙ shorter n (length xs) in
      (λ i. enough i && all i)
      ∙ elim (test x) as (λ b. (nat_le n (length xs) && cond b (list_all test (drop (length xs - n) xs)) false)
      ≡ cond b (end_so n xs) false) [
        | true ↦ refl
        | false ↦ elim (nat_le n (length xs)) as (λ b. (b && false) ≡ false) [ true ↦ refl | false ↦ refl ]
      ]

  le-none : (n : ℕ) → nat_le (suc n) 0 ≡ false
  le-none n = grind (arith, common_steps)

  le-nought : (n : ℕ) → nat_le 0 n ≡ true
  le-nought n = grind (arith, common_steps)

  passed : (n m : ℕ) (b : Bool) → cond b (nat_le n m) false ≡ nat_le (suc n) (cond b (1 + m) 0)
  passed n m true = sym (shorter n m) ∙ ap (nat_le (suc n)) (omega arith)
  passed n m false = sym (le-none n)

  -- The same over the reversed list.
  backwards : (n : ℕ) (ys : List X) → end_so n (reverse ys) ≡ nat_le n (prefix_len test ys)
  backwards zero ys = none-so (reverse ys) ∙ sym (le-nought (prefix_len test ys))
  backwards (suc n) [] = fails (nat_le (suc n) 0) _ (le-none n) ∙ sym (le-none n)
  backwards (suc n) (y ∷ ys) =
      let turned : reverse (y ∷ ys) ≡ reverse ys ++ y ∷ [] = reverse-append (y ∷ []) ys in
      ap (end_so (suc n)) turned ∙ so-more n (reverse ys) y ∙ ap (λ b. cond (test y) b false) (backwards n ys)
      ∙ passed n (prefix_len test ys) (test y)

  -- The last n elements pass exactly if the longest passing suffix has at least n elements.
  pub end_so-run : (n : ℕ) (xs : List X) → end_so n xs ≡ nat_le n (suffix_len test xs)
  end_so-run n xs = ap (end_so n) (sym (reverse-reverse xs)) ∙ backwards n (reverse xs)
