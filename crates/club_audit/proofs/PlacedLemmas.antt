-- Rows that are numbered by their places.
use Rattle.std.proofs.Common.{◌≡◌, ℕ, zero, suc, ◌+◌, ◌<◌, List, [], ◌∷◌, ◌++◌, get_or, length, map, Some, refl, ap}
use Rattle.std.proofs.Common.{sym, subst, arith, inl, inr}
use Rattle.std.specs.Prelude.{slice_get}
use Rattle.std.proofs.lemmas.Bool.{cases_eq}
use Rattle.std.proofs.lemmas.Option.{same_Some, slice_get_read, slice_get_within}
use Rattle.sqlite.specs.Order.{Row}
use Rattle.sqlite_rules.specs.Lists.{Has}
use Rattle.club_core.specs.LegalState.{Each}
use Rattle.club_rows.specs.Tables.{numbered_from}

-- ---- what holds of the elements of a list below an index

-- what holds of each element below the index, by its place
abbrev pub Below : {X : Type 0} → (ℕ → X → Type 0) → ℕ → List X → Type 0
Below {X} P i xs = (k : ℕ) (x : X) → k < i → slice_get xs k ≡ Some x → P k x

module _ {X : Type 0} (P : ℕ → X → Type 0) where
  pub below-more : (i : ℕ) (xs : List X) (x : X) → slice_get xs i ≡ Some x → Below P i xs → P i x → Below P (i + 1) xs
  below-more i xs x here before holds k y low at =
      elim (cases_eq k i) [
        | inl same ↦ let e : x ≡ y = cc in subst (λ n. P n y) (sym same) (subst (P i) e holds)
        | inr other ↦ before k y (omega (arith, other, low)) at
      ]

  -- by the element that is read at the index
  pub below-read : (i : ℕ) (xs : List X) (x : X) → i < length xs → x ≡ get_or xs i x → Below P i xs → P i x
      → Below P (i + 1) xs
  below-read i xs x low read = below-more i xs x (slice_get_read xs (length xs) i x refl low read)

  pub below-all : (i : ℕ) (xs : List X) → length xs ≡ i → Below P i xs → (k : ℕ) (x : X) → slice_get xs k ≡ Some x
      → P k x
  below-all i xs long below k x at = below k x (omega (arith, slice_get_within xs k x at, long)) at

-- places of which neither comes before the other are one
pub one-place : (i j : ℕ) → (i < j → ⊥) → (j < i → ⊥) → i ≡ j
one-place i j up down = grind (arith, up, down)

-- ---- the rows of a list

pub each-cons : {X : Type 0} (P : X → Type 0) (x : X) (xs : List X) → P x → Each P xs → Each P (x ∷ xs)
each-cons P x xs holds each zero y at = subst P (same_Some x y at) holds
each-cons P x xs holds each (suc n) y at = each n y at

pub shifted : (n k : ℕ) → n + suc k ≡ suc n + k
shifted n k = omega arith

pub here-is : (n : ℕ) → n + 0 ≡ n
here-is n = omega arith

pub head-is : {X : Type 0} (x y : X) (xs ys : List X) → x ∷ xs ≡ y ∷ ys → (x ≡ y) × (xs ≡ ys)
head-is x y xs ys is = (cc, cc)

module _ {R A : Type 0} (cells : R → Row) (row : ℕ → A → Row) where
  -- rows, each of them that of something at its place, are the rows of a list
  pub numbered-of : (P : A → Type 0) (n : ℕ) (rows : List R)
      → ((k : ℕ) (r : R) → slice_get rows k ≡ Some r → (x : A) × (cells r ≡ row (n + k) x) × P x) → (xs : List A)
      × (map cells rows ≡ numbered_from row n xs) × Each P xs
  numbered-of P n [] each = ([], refl, λ k x at. cc)
  numbered-of P n (r ∷ rs) each =
      let one = each 0 r refl in
      let rest = numbered-of P (suc n) rs (λ k s at. let next = each (suc k) s at in
      (next.0, cc (shifted n k), next.2)) in (
        one.0 ∷ rest.0,
        cc (here-is n),
        each-cons P one.0 rest.0 one.2 rest.2,
      )

  -- each row is that of the element at its place
  pub numbered-at : (n : ℕ) (rows : List R) (xs : List A) → map cells rows ≡ numbered_from row n xs → (k : ℕ) (r : R)
      → slice_get rows k ≡ Some r → (x : A) × (slice_get xs k ≡ Some x) × (cells r ≡ row (n + k) x)
  numbered-at n [] xs are k r at = cc
  numbered-at n (s ∷ rs) [] are k r at = cc
  numbered-at n (s ∷ rs) (x ∷ xs) are zero r at = let e = here-is n in (x, refl, cc)
  numbered-at n (s ∷ rs) (x ∷ xs) are (suc k) r at =
      let (y, there, is) = numbered-at (suc n) rs xs (head-is _ _ _ _ are).1 k r at in
      let e = shifted n k in
      (y, there, cc)

  -- each element has its row at its place
  pub numbered-back : (n : ℕ) (rows : List R) (xs : List A) → map cells rows ≡ numbered_from row n xs → (k : ℕ) (x : A)
      → slice_get xs k ≡ Some x → (r : R) × (slice_get rows k ≡ Some r) × (cells r ≡ row (n + k) x)
  numbered-back n rows [] are k x at = cc
  numbered-back n [] (y ∷ ys) are k x at = cc
  numbered-back n (s ∷ rs) (y ∷ ys) are zero x at = let e = here-is n in (s, refl, cc)
  numbered-back n (s ∷ rs) (y ∷ ys) are (suc k) x at =
      let (r, there, is) = numbered-back (suc n) rs ys (head-is _ _ _ _ are).1 k x at in
      let e = shifted n k in
      (r, there, cc)

  pub numbered-length : (n : ℕ) (rows : List R) (xs : List A) → map cells rows ≡ numbered_from row n xs
      → length rows ≡ length xs
  numbered-length n [] [] are = refl
  numbered-length n [] (y ∷ ys) are = cc
  numbered-length n (s ∷ rs) [] are = cc
  numbered-length n (s ∷ rs) (y ∷ ys) are = ap suc (numbered-length (suc n) rs ys (head-is _ _ _ _ are).1)

-- the rows of a list with one more
pub numbered-append : {A : Type 0} (row : ℕ → A → Row) (n : ℕ) (xs : List A) (x : A)
    → numbered_from row n (xs ++ x ∷ []) ≡ numbered_from row n xs ++ row (n + length xs) x ∷ []
numbered-append row n [] x = cc (here-is n)
numbered-append row n (y ∷ ys) x = cc (numbered-append row (suc n) ys x, shifted n (length ys))

-- an element of a list stands somewhere in it
pub had-at : {X : Type 0} (xs : List X) (x : X) → Has xs x → (j : ℕ) × (slice_get xs j ≡ Some x)
had-at [] x has = absurd has
had-at (y ∷ ys) x (inl is) = (0, ap Some (sym is))
had-at (y ∷ ys) x (inr has) = let (j, at) = had-at ys x has in (suc j, at)
