-- List membership by recursion. No promise of the program rests on these definitions.
use Rattle.std.proofs.Common.{◌≡◌, ℕ, Bool, true, false, ◌||◌, ◌∙◌, ◌⊎◌, inl, inr, List, [], ◌∷◌, ◌++◌, refl, sym, ap}
use Rattle.std.proofs.Common.{subst, arith, length, get_or, zero, suc, ◌<◌, ◌≤◌, ◌+◌, take, drop}
use Rattle.std.proofs.lemmas.List.{take_more, drop_more}
use Rattle.std.proofs.lemmas.Grind.{common_steps}
use Rattle.std.specs.Prelude.{map}
use Rattle.std.specs.List.{flat_map, list_any, Contains}

abbrev pub In : {A : Type 0} → A → List A → Type 0
In x [] = ⊥
In x (y ∷ ys) = (y ≡ x) ⊎ In x ys

pub In-left : {A : Type 0} (x : A) (xs ys : List A) → In x xs → In x (xs ++ ys)
In-left x [] ys h = absurd h
In-left x (y ∷ xs) ys (inl e) = inl e
In-left x (y ∷ xs) ys (inr h) = inr (In-left x xs ys h)

pub In-right : {A : Type 0} (x : A) (xs ys : List A) → In x ys → In x (xs ++ ys)
In-right x [] ys h = h
In-right x (y ∷ xs) ys h = inr (In-right x xs ys h)

pub In-cases : {A : Type 0} (x : A) (xs ys : List A) → In x (xs ++ ys) → In x xs ⊎ In x ys
In-cases x [] ys h = inr h
In-cases x (y ∷ xs) ys (inl e) = inl (inl e)
In-cases x (y ∷ xs) ys (inr h) = elim (In-cases x xs ys h) [ inl a ↦ inl (inr a) | inr b ↦ inr b ]

pub In-map : {A B : Type 0} (f : A → B) (x : A) (xs : List A) → In x xs → In (f x) (map f xs)
In-map f x [] h = absurd h
In-map f x (y ∷ xs) (inl e) = inl (ap f e)
In-map f x (y ∷ xs) (inr h) = inr (In-map f x xs h)

pub In-from_map : {A B : Type 0} (f : A → B) (z : B) (xs : List A) → In z (map f xs) → (x : A) × In x xs × (f x ≡ z)
In-from_map f z [] h = absurd h
In-from_map f z (y ∷ xs) (inl e) = (y, inl refl, e)
In-from_map f z (y ∷ xs) (inr h) = let w = In-from_map f z xs h in (w.0, inr w.1, w.2)

pub In-flat_map : {A B : Type 0} (f : A → List B) (z : B) (x : A) (xs : List A) → In x xs → In z (f x)
    → In z (flat_map f xs)
In-flat_map f z x [] h k = absurd h
In-flat_map f z x (y ∷ xs) (inl e) k = In-left z (f y) (flat_map f xs) (subst (λ w. In z (f w)) (sym e) k)
In-flat_map f z x (y ∷ xs) (inr h) k = In-right z (f y) (flat_map f xs) (In-flat_map f z x xs h k)

pub In-from_flat_map : {A B : Type 0} (f : A → List B) (z : B) (xs : List A) → In z (flat_map f xs) → (x : A) × In x xs
    × In z (f x)
In-from_flat_map f z [] h = absurd h
In-from_flat_map f z (y ∷ xs) h =
    elim (In-cases z (f y) (flat_map f xs) h) [
      | inl a ↦ (y, inl refl, a)
      | inr b ↦ let w = In-from_flat_map f z xs b in (w.0, inr w.1, w.2)
    ]

pub In-get_or : {A : Type 0} (xs : List A) (i : ℕ) (d : A) → i < length xs → In (get_or xs i d) xs
In-get_or [] i d h = absurd (omega arith)
In-get_or (x ∷ xs) zero d h = inl refl
In-get_or (x ∷ xs) (suc i) d h = inr (In-get_or xs i d (omega arith))

pub In-take_more : {A : Type 0} (xs : List A) (i : ℕ) (x d : A) → i < length xs → In x (take (i + 1) xs)
    → In x (take i xs) ⊎ (get_or xs i d ≡ x)
In-take_more xs i x d h k =
    elim (In-cases x (take i xs) (get_or xs i d ∷ []) (subst (λ ys. In x ys) (take_more xs i d h) k)) [
      | inl a ↦ inl a
      | inr one ↦ elim one [ inl e ↦ inr e | inr never ↦ absurd never ]
    ]

pub Contains-In : {A : Type 0} (x : A) (xs : List A) → Contains xs x → In x xs
Contains-In x xs w = subst (λ y. In y xs) w.2 (In-get_or xs w.0 x w.1)

pub In-Contains : {A : Type 0} (x : A) (xs : List A) → In x xs → Contains xs x
In-Contains x [] h = absurd h
In-Contains x (y ∷ ys) (inl e) = (0, omega arith, e)
In-Contains x (y ∷ ys) (inr h) = let w = In-Contains x ys h in (suc w.0, omega (arith, w.1), w.2)

or_true : (a : Bool) → (a || true) ≡ true
or_true true = refl
or_true false = refl

pub list_any-found : {A : Type 0} (f : A → Bool) (xs : List A) → list_any f xs ≡ true → (x : A) × In x xs × (f x ≡ true)
list_any-found f [] e = cc
list_any-found {A} f (y ∷ xs) e =
    elim (f y) as (λ c. f y ≡ c → (c || list_any f xs) ≡ true → (x : A) × In x (y ∷ xs) × (f x ≡ true)) [
      | true ↦ λ is _. (y, inl refl, is)
      | false ↦ λ _ e. let w = list_any-found f xs e in (w.0, inr w.1, w.2)
    ] refl e

pub list_any-finds : {A : Type 0} (f : A → Bool) (xs : List A) (x : A) → In x xs → f x ≡ true → list_any f xs ≡ true
list_any-finds f [] x h e = absurd h
list_any-finds f (y ∷ xs) x (inl same) e = ap (λ c. c || list_any f xs) (ap f same ∙ e)
list_any-finds f (y ∷ xs) x (inr h) e = ap (λ c. f y || c) (list_any-finds f xs x h e) ∙ or_true (f y)

-- Steps of a loop that searches for an element that passes a test.
module _ {A : Type 0} (f : A → Bool) (xs : List A) (i : ℕ) where
  module _ (x : A) (h : i < length xs) (is : x ≡ get_or xs i x) (rest : list_any f (drop i xs) ≡ list_any f xs) where
    from_here : (f x || list_any f (drop (i + 1) xs)) ≡ list_any f xs
    from_here = sym (ap (list_any f) (drop_more xs i x h ∙ ap (λ y. y ∷ drop (i + 1) xs) (sym is))) ∙ rest

    pub list_any-here : f x ≡ true → list_any f xs ≡ true
    list_any-here e = sym from_here ∙ ap (λ c. c || list_any f (drop (i + 1) xs)) e

    pub list_any-past : f x ≡ false → list_any f (drop (i + 1) xs) ≡ list_any f xs
    list_any-past e = sym (ap (λ c. c || list_any f (drop (i + 1) xs)) e) ∙ from_here

  pub list_any-end : length xs ≤ i → list_any f (drop i xs) ≡ list_any f xs → list_any f xs ≡ false
  list_any-end h rest = let none : drop i xs ≡ [] = grind (arith, common_steps) in sym rest ∙ ap (list_any f) none
