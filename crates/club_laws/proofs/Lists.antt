-- Elements of a list that grew at its end or was changed at a place, and those that a search finds.
use Rattle.std.proofs.Common.{◌≡◌, ℕ, zero, suc, ◌+◌, ◌-◌, List, [], ◌∷◌, ◌++◌, length, map, Option, Some, None, Bool}
use Rattle.std.proofs.Common.{true}
use Rattle.std.proofs.Common.{false, refl, ap, sym, ◌∙◌, arith, ◌⊎◌, inl, inr, ◌&&◌, ◌||◌}
use Rattle.std.specs.Prelude.{slice_get, slice_set, IsSome, if◌then◌else◌}
use Rattle.std.specs.Option.{option_map}
use Rattle.std.specs.List.{list_any}
use Rattle.std.specs.Str.{bytes_eq}
use Rattle.std.proofs.lemmas.Slice.Eq.{bytes_eq-Decides}
use Rattle.club_core.specs.Members.{find_id}
use Rattle.club_core.specs.State.{place}
use Rattle.club_core.specs.LegalState.{Each, HaveUniqueKeys, HaveUniqueKeysIfAny}

pub bytes_eq-same : (a b : List ℕ) → a ≡ b → bytes_eq a b ≡ true
bytes_eq-same a b same = (bytes_eq-Decides a b).1 same

pub same-bytes_eq : (a b : List ℕ) → bytes_eq a b ≡ true → a ≡ b
same-bytes_eq a b same = (bytes_eq-Decides a b).0 same

none-rest : (o : Option ℕ) → option_map suc o ≡ None → o ≡ None
none-rest None is = refl
none-rest (Some k) is = cc

-- what a search finds is the first, or is found in the rest
pub find-cases : (b : Bool) (o : Option ℕ) (id : ℕ) → (if b then Some 1 else option_map suc o) ≡ Some id
    → ((b ≡ true) × (1 ≡ id)) ⊎ ((k : ℕ) × (b ≡ false) × (o ≡ Some k) × (suc k ≡ id))
find-cases true o id is = inl (refl, cc)
find-cases false None id is = cc
find-cases false (Some k) id is = inr (k, refl, refl, cc)

more-later : (o p : Option ℕ) (id : ℕ) → ((k : ℕ) → o ≡ Some k → p ≡ Some k) → option_map suc o ≡ Some id
    → option_map suc p ≡ Some id
more-later None p id rest is = cc
more-later (Some k) p id rest is = rw (rest k refl) is

more-here : (b : Bool) (o p : Option ℕ) (id : ℕ) → ((k : ℕ) → o ≡ Some k → p ≡ Some k)
    → (if b then Some 1 else option_map suc o) ≡ Some id → (if b then Some 1 else option_map suc p) ≡ Some id
more-here true o p id rest is = is
more-here false o p id rest is = more-later o p id rest is

some-same : {A : Type 0} (x y : A) → Some x ≡ Some y → x ≡ y
some-same x y is = cc

pub or-false : (a b : Bool) → (a || b) ≡ false → (a ≡ false) × (b ≡ false)
or-false true b is = cc
or-false false b is = (refl, is)

pub both-true : (a b : Bool) → (a && b) ≡ true → (a ≡ true) × (b ≡ true)
both-true true b is = (refl, is)
both-true false b is = cc

module _ {A : Type 0} where
  -- an element of a list with one more is of the list, or the one
  pub got-append : (xs : List A) (y : A) (n : ℕ) (x : A) → slice_get (xs ++ y ∷ []) n ≡ Some x
      → (slice_get xs n ≡ Some x) ⊎ ((n ≡ length xs) × (y ≡ x))
  got-append [] y zero x at = inr (refl, cc)
  got-append [] y (suc n) x at = cc
  got-append (z ∷ zs) y zero x at = inl at
  got-append (z ∷ zs) y (suc n) x at =
      elim (got-append zs y n x at) [ inl old ↦ inl old | inr new ↦ inr (ap suc new.0, new.1) ]

  -- an element of a list changed at a place is of the list, or the one put there
  pub got-set : (xs : List A) (i : ℕ) (y : A) (n : ℕ) (x : A) → slice_get (slice_set xs i y) n ≡ Some x
      → (slice_get xs n ≡ Some x) ⊎ ((n ≡ i) × (y ≡ x))
  got-set [] i y n x at = inl at
  got-set (z ∷ zs) zero y zero x at = inr (refl, cc)
  got-set (z ∷ zs) zero y (suc n) x at = inl at
  got-set (z ∷ zs) (suc i) y zero x at = inl at
  got-set (z ∷ zs) (suc i) y (suc n) x at =
      elim (got-set zs i y n x at) [ inl old ↦ inl old | inr new ↦ inr (ap suc new.0, new.1) ]

  -- what stands in a list stands there when it has grown
  pub get-append : (xs ys : List A) (n : ℕ) (x : A) → slice_get xs n ≡ Some x → slice_get (xs ++ ys) n ≡ Some x
  get-append [] ys n x at = cc
  get-append (z ∷ zs) ys zero x at = at
  get-append (z ∷ zs) ys (suc n) x at = get-append zs ys n x at

  pub place-append : (xs ys : List A) (id : ℕ) (x : A) → place xs id ≡ Some x → place (xs ++ ys) id ≡ Some x
  place-append xs ys zero x at = cc
  place-append xs ys (suc n) x at = get-append xs ys n x at

  pub some-is : (o : Option A) → IsSome o → (x : A) × (o ≡ Some x)
  some-is None some = cc
  some-is (Some x) some = (x, refl)

  pub is_some-append : (xs ys : List A) (id : ℕ) → IsSome (place xs id) → IsSome (place (xs ++ ys) id)
  is_some-append xs ys id some =
      let (x, at) = some-is (place xs id) some in
      rw (place-append xs ys id x at) refl

  pub each-append : (P : A → Type 0) (xs : List A) (y : A) → Each P xs → P y → Each P (xs ++ y ∷ [])
  each-append P xs y each new =
      λ n x at. elim (got-append xs y n x at) [ inl old ↦ each n x old | inr is ↦ rw (← is.1) new ]

  pub each-set : (P : A → Type 0) (xs : List A) (i : ℕ) (y : A) → Each P xs → P y → Each P (slice_set xs i y)
  each-set P xs i y each new =
      λ n x at. elim (got-set xs i y n x at) [ inl old ↦ each n x old | inr is ↦ rw (← is.1) new ]

  -- what has an id in a list has the next one behind one element more
  pub place-more : (x y : A) (xs : List A) (id : ℕ) → place xs id ≡ Some y → place (x ∷ xs) (suc id) ≡ Some y
  place-more x y xs zero at = cc
  place-more x y xs (suc n) at = at

  -- what a search by an id finds stands there and passes
  pub find_id-found : (test : A → Bool) (xs : List A) (id : ℕ) → find_id test xs ≡ Some id → (x : A)
      × (place xs id ≡ Some x) × (test x ≡ true)
  find_id-found test [] id is = cc
  find_id-found test (x ∷ xs) id is =
      elim (find-cases (test x) (find_id test xs) id is) [
        | inl first ↦ (x, rw (← first.1) refl, first.0)
        | inr rest ↦
            let (k, fails, found, next) = rest in
            let (y, stands, passes) = find_id-found test xs k found in
            (y, rw (← next) (place-more x y xs k stands), passes)
      ]

  -- where no element passes, each fails
  pub list_any-false : (test : A → Bool) (xs : List A) → list_any test xs ≡ false → (n : ℕ) (x : A)
      → slice_get xs n ≡ Some x → test x ≡ false
  list_any-false test [] is n x at = cc
  list_any-false test (y ∷ ys) is zero x at = let e : y ≡ x = cc in rw (← e) (or-false (test y) (list_any test ys) is).0
  list_any-false test (y ∷ ys) is (suc n) x at =
      list_any-false test ys (or-false (test y) (list_any test ys) is).1 n x at

  none-here : (test : A → Bool) (y : A) (ys : List A) (b : Bool) → test y ≡ b
      → (if b then Some 1 else option_map suc (find_id test ys)) ≡ None → (test y ≡ false) × (find_id test ys ≡ None)
  none-here test y ys true fails is = cc
  none-here test y ys false fails is = (fails, none-rest (find_id test ys) is)

  -- where a search finds nothing, each fails
  pub find_id-none : (test : A → Bool) (xs : List A) → find_id test xs ≡ None → (n : ℕ) (x : A)
      → slice_get xs n ≡ Some x → test x ≡ false
  find_id-none test [] is n x at = cc
  find_id-none test (y ∷ ys) is zero x at = let e : y ≡ x = cc in rw (← e) (none-here test y ys (test y) refl is).0
  find_id-none test (y ∷ ys) is (suc n) x at = find_id-none test ys (none-here test y ys (test y) refl is).1 n x at

  -- a search in a list that has grown finds the same
  pub find_id-append : (test : A → Bool) (xs ys : List A) (id : ℕ) → find_id test xs ≡ Some id
      → find_id test (xs ++ ys) ≡ Some id
  find_id-append test [] ys id is = cc
  find_id-append test (x ∷ xs) ys id is =
      more-here (test x) (find_id test xs) (find_id test (xs ++ ys)) id (find_id-append test xs ys) is

  new-here : (test : A → Bool) (b : Bool) (o p : Option ℕ) (n : ℕ) → (o ≡ None → p ≡ Some (n + 1))
      → (if b then Some 1 else option_map suc o) ≡ None → (if b then Some 1 else option_map suc p) ≡ Some (suc n + 1)
  new-here test true o p n rest none = cc
  new-here test false o p n rest none = rw (rest (none-rest o none)) (ap Some (omega arith))

  -- a search that finds nothing before finds the new element
  pub find_id-new : (test : A → Bool) (xs : List A) (y : A) → find_id test xs ≡ None → test y ≡ true
      → find_id test (xs ++ y ∷ []) ≡ Some (length xs + 1)
  find_id-new test [] y none passes = rw passes refl
  find_id-new test (x ∷ xs) y none passes =
      new-here test (test x) (find_id test xs) (find_id test (xs ++ y ∷ [])) (length xs)
      (λ e. find_id-new test xs y e passes) none

  -- what stands in a list stands there after a change at a place, or is the one put there
  pub set-got : (xs : List A) (i : ℕ) (y : A) (n : ℕ) (x : A) → slice_get xs n ≡ Some x
      → (slice_get (slice_set xs i y) n ≡ Some x) ⊎ ((n ≡ i) × (slice_get (slice_set xs i y) n ≡ Some y))
  set-got [] i y n x at = cc
  set-got (z ∷ zs) zero y zero x at = inr (refl, refl)
  set-got (z ∷ zs) zero y (suc n) x at = inl at
  set-got (z ∷ zs) (suc i) y zero x at = inl at
  set-got (z ∷ zs) (suc i) y (suc n) x at =
      elim (set-got zs i y n x at) [ inl old ↦ inl old | inr new ↦ inr (ap suc new.0, new.1) ]

  -- what is put at a place stands there
  pub put-at : (xs : List A) (i : ℕ) (x y : A) → slice_get xs i ≡ Some x → slice_get (slice_set xs i y) i ≡ Some y
  put-at [] i x y at = cc
  put-at (z ∷ zs) zero x y at = refl
  put-at (z ∷ zs) (suc i) x y at = put-at zs i x y at

  -- what stands in a list of images is the image of what stands there
  pub map-got : {B : Type 0} (f : A → B) (xs : List A) (n : ℕ) (y : B) → slice_get (map f xs) n ≡ Some y → (x : A)
      × (slice_get xs n ≡ Some x) × (f x ≡ y)
  map-got f [] n y at = cc
  map-got f (x ∷ xs) zero y at = (x, refl, cc)
  map-got f (x ∷ xs) (suc n) y at = map-got f xs n y at

  pub map-at : {B : Type 0} (f : A → B) (xs : List A) (n : ℕ) (x : A) → slice_get xs n ≡ Some x
      → slice_get (map f xs) n ≡ Some (f x)
  map-at f [] n x at = cc
  map-at f (z ∷ zs) zero x at = let e : z ≡ x = cc in rw e refl
  map-at f (z ∷ zs) (suc n) x at = map-at f zs n x at

  -- what is put in the place of an id stands there
  pub place-set : (xs : List A) (id : ℕ) (x y : A) → place xs id ≡ Some x → place (slice_set xs (id - 1) y) id ≡ Some y
  place-set xs zero x y at = cc
  place-set xs (suc k) x y at =
      let before : suc k - 1 ≡ k = omega arith in
      rw before (put-at xs k x y at)

  pub at-last : (xs : List A) (y : A) → slice_get (xs ++ y ∷ []) (length xs) ≡ Some y
  at-last [] y = refl
  at-last (x ∷ xs) y = at-last xs y

  -- a search finds the same in a list whose elements at the same places answer the same
  pub find_id-pointwise : (test : A → Bool) (xs ys : List A) (id : ℕ)
      → ((n : ℕ) (x : A) → slice_get xs n ≡ Some x → (y : A) × (slice_get ys n ≡ Some y) × (test y ≡ test x))
      → find_id test xs ≡ Some id → find_id test ys ≡ Some id
  find_id-pointwise test [] ys id same is = cc
  find_id-pointwise test (x ∷ xs) [] id same is = let (y, at, _) = same 0 x refl in cc
  find_id-pointwise test (x ∷ xs) (y ∷ ys) id same is =
      let (z, at, passes) = same 0 x refl in
      let e : y ≡ z = cc in
      let one : test y ≡ test x = ap test e ∙ passes in
      rw one
      (more-here (test x) (find_id test xs) (find_id test ys) id
      (λ k. find_id-pointwise test xs ys k (λ n. same (suc n))) is)

module _ {A B : Type 0} (part : A → Option B) where
  pub are_apart_if_any-append : (xs : List A) (y : A) → HaveUniqueKeysIfAny part xs
      → ((n : ℕ) (x : A) (b : B) → slice_get xs n ≡ Some x → part x ≡ Some b → part y ≡ Some b → ⊥)
      → HaveUniqueKeysIfAny part (xs ++ y ∷ [])
  are_apart_if_any-append xs y apart new =
      λ i j a b key at_i at_j key_i key_j.
      elim (got-append xs y i a at_i) [
        | inl old_i ↦ elim (got-append xs y j b at_j) [
          | inl old_j ↦ apart i j a b key old_i old_j key_i key_j
          | inr is_j ↦ absurd (new i a key old_i key_i (ap part is_j.1 ∙ key_j))
        ]
        | inr is_i ↦ elim (got-append xs y j b at_j) [
          | inl old_j ↦ absurd (new j b key old_j key_j (ap part is_i.1 ∙ key_i))
          | inr is_j ↦ is_i.0 ∙ sym is_j.0
        ]
      ]

-- an element is changed, and not the part that no two have alike
pub apart-set : {A B : Type 0} (part : A → B) (xs : List A) (i : ℕ) (old new : A) → slice_get xs i ≡ Some old
    → part new ≡ part old → HaveUniqueKeys part xs → HaveUniqueKeys part (slice_set xs i new)
apart-set {A} part xs i old new stood same apart j k a b at_j at_k alike =
    let (x, at_x, is_x) = before j a at_j in
    let (y, at_y, is_y) = before k b at_k in
    apart j k x y at_x at_y (is_x ∙ (alike ∙ sym is_y))
  where
    before : (n : ℕ) (x : A) → slice_get (slice_set xs i new) n ≡ Some x → (y : A) × (slice_get xs n ≡ Some y)
        × (part y ≡ part x)
    before n x at =
        elim (got-set xs i new n x at) [
          | inl stays ↦ (x, stays, refl)
          | inr put ↦ (old, ap (slice_get xs) put.0 ∙ stood, sym same ∙ ap part put.1)
        ]

pub are_apart-append : {A B : Type 0} (part : A → B) (xs : List A) (y : A) → HaveUniqueKeys part xs
    → ((n : ℕ) (x : A) → slice_get xs n ≡ Some x → part x ≡ part y → ⊥) → HaveUniqueKeys part (xs ++ y ∷ [])
are_apart-append part xs y apart new =
    λ i j a b at_i at_j same.
    are_apart_if_any-append (λ x. Some (part x)) xs y
    (λ i j a b c at_i at_j is_a is_b. apart i j a b at_i at_j (some-same _ _ (is_a ∙ sym is_b)))
    (λ n x c at is_x is_y. new n x at (some-same _ _ (is_x ∙ sym is_y))) i j a b (part b) at_i at_j (ap Some same) refl
