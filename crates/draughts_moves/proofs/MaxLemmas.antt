-- The greatest value of a function on a list, and what is left out of a list without a change.
use Rattle.std.proofs.Common.{◌≡◌, ℕ, ◌≤◌, ◌⊎◌, inl, inr, Bool, false, List, [], ◌∷◌, ◌++◌, max, fold, refl, ap, ◌∙◌}
use Rattle.std.proofs.Common.{arith}
use Rattle.std.specs.Prelude.{filter}
use Rattle.std.specs.List.{flat_map, range_with_len}
use Rattle.std.specs.FinSet as set
use Rattle.std.proofs.lemmas.Bool.{cases_lt, cases_Bool}
use Rattle.squares.specs.DraughtsBoard.{Position}
use Rattle.squares.specs.DraughtsSets.{Squares, ascending}
use Rattle.squares.specs.internal.In.{In}
use Rattle.draughts_moves.specs.Search.{greatest_at, most}

module _ {A : Type 0} (f : A → ℕ) where
  -- the greatest of a number and the values on a list
  abbrev pub greatest_of : ℕ → List A → ℕ
  greatest_of a xs = fold (λ m x. max m (f x)) a xs

  pub most-from : (a : ℕ) (xs : List A) → a ≤ greatest_of a xs
  most-from a [] = omega arith
  most-from a (x ∷ xs) = omega (arith, most-from (max a (f x)) xs)

  pub most-above : (a : ℕ) (x : A) (xs : List A) → In x xs → f x ≤ greatest_of a xs
  most-above a x [] h = absurd h
  most-above a x (y ∷ xs) (inl e) = omega (arith, ap f e, most-from (max a (f y)) xs)
  most-above a x (y ∷ xs) (inr h) = most-above (max a (f y)) x xs h

  pub most-below : (k a : ℕ) (xs : List A) → a ≤ k → ((x : A) → f x ≤ k) → greatest_of a xs ≤ k
  most-below k a [] h each = h
  most-below k a (x ∷ xs) h each = most-below k (max a (f x)) xs (omega (arith, each x)) each

  pub most-reached : (a : ℕ) (xs : List A)
      → (greatest_of a xs ≡ a) ⊎ ((x : A) × In x xs × (f x ≡ greatest_of a xs))
  most-reached a [] = inl refl
  most-reached a (x ∷ xs) =
      elim (most-reached (max a (f x)) xs) [
        | inl e ↦ elim (cases_lt a (f x))
            [ inl h ↦ inr (x, inl refl, omega (arith, e)) | inr h ↦ inl (omega (arith, e)) ]
        | inr w ↦ inr (w.0, inr w.1, w.2)
      ]

pub most-same : {A : Type 0} (f g : A → ℕ) (a : ℕ) (xs : List A) → ((x : A) → In x xs → f x ≡ g x)
    → greatest_of f a xs ≡ greatest_of g a xs
most-same f g a [] h = refl
most-same f g a (x ∷ xs) h = ap (λ b. greatest_of f (max a b) xs) (h x (inl refl))
    ∙ most-same f g (max a (g x)) xs (λ y k. h y (inr k))

-- what a test leaves out has nothing
pub flat_map-filter : {A : Type 0} (f : ℕ → List A) (test : ℕ → Bool) (ns : List ℕ)
    → ((q : ℕ) → test q ≡ false → f q ≡ []) → flat_map f ns ≡ flat_map f (filter test ns)
flat_map-filter f test [] none = refl
flat_map-filter f test (n ∷ ns) none =
    let rest = flat_map-filter f test ns none in
    elim (cases_Bool (test n)) [ inl e ↦ rw e (ap (λ ys. f n ++ ys) rest) | inr e ↦ rw (none n e, e) rest ]

max-filter : (f : ℕ → ℕ) (test : ℕ → Bool) (a : ℕ) (ns : List ℕ) → ((q : ℕ) → test q ≡ false → f q ≡ 0)
    → greatest_of f a (filter test ns) ≡ greatest_of f a ns
max-filter f test a [] none = refl
max-filter f test a (n ∷ ns) none = elim (cases_Bool (test n)) [
  | inl e ↦ rw e (max-filter f test (max a (f n)) ns none)
  | inr e ↦ let same : a ≡ max a (f n) = omega (arith, none n e) in
      rw e (max-filter f test a ns none ∙ ap (λ k. greatest_of f k ns) same)
]

-- the greatest number is among the pieces of a set, where the others take nothing
pub most-able : (p : Position) (able : Squares) → ((n : ℕ) → set.contains able n ≡ false → greatest_at p n ≡ 0)
    → greatest_of (greatest_at p) 0 (ascending able) ≡ most p
unfolding most ascending
most-able p able none = max-filter (greatest_at p) (set.contains able) 0 (range_with_len 1 50) none

-- a loop that takes the least square out of a set and keeps the greatest number
pub popped_most : (f : ℕ → ℕ) (before after : Squares) (n old new whole : ℕ) → ascending before ≡ n ∷ ascending after
    → greatest_of f old (ascending before) ≡ whole → new ≡ max old (f n) → greatest_of f new (ascending after) ≡ whole
popped_most f before after n old new whole pop so_far step =
    ap (λ k. greatest_of f k (ascending after)) step ∙ (rw pop at so_far)

pub popped_end : (f : ℕ → ℕ) (before : Squares) (old whole : ℕ) → ascending before ≡ []
    → greatest_of f old (ascending before) ≡ whole → old ≡ whole
popped_end f before old whole none so_far = rw none at so_far
