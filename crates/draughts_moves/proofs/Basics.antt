-- The cases of an option, what a test keeps of a list, and lists and tests over the four directions.
use Rattle.std.proofs.Common.{◌≡◌, Bool, true, ◌||◌, ◌⊎◌, inl, inr, Option, Some, None, List, [], ◌∷◌, ◌++◌, refl, sym}
use Rattle.std.proofs.Common.{ap, ◌∙◌, subst, false, ℕ, ◌<◌, length, get_or}
use Rattle.std.specs.Prelude.{filter}
use Rattle.std.specs.List.{list_any}
use Rattle.std.proofs.lemmas.Bool.{cases_Bool, or_parts}
use Rattle.std.proofs.lemmas.List.Folds.{list_any-append}
use Rattle.squares.specs.declared.draughts.direction.Direction.{Direction}
use Rattle.squares.specs.declared.draughts.direction.Direction.TheVariants.{UpLeft, UpRight, DownLeft, DownRight}
use Rattle.squares.specs.internal.In.{In, In-left, In-right, In-cases, In-get_or}

-- an option is nothing, or something
pub option_cases : {A : Type 0} (o : Option A) → (o ≡ None) ⊎ ((a : A) × (o ≡ Some a))
option_cases None = inl refl
option_cases (Some a) = inr (a, refl)

-- what a test keeps is of the list and passes the test, and all that does is kept
module _ {A : Type 0} (test : A → Bool) (v : A) where
  pub from_filter : (xs : List A) → In v (filter test xs) → In v xs × (test v ≡ true)
  from_filter [] h = absurd h
  from_filter (x ∷ xs) h = elim (cases_Bool (test x)) [
    | inl e ↦ elim (rw e at h)
        [ inl same ↦ (inl same, ap test (sym same) ∙ e) | inr k ↦ let w = from_filter xs k in (inr w.0, w.1) ]
    | inr e ↦ let w = from_filter xs (rw e at h) in (inr w.0, w.1)
  ]

  pub in_filter : (xs : List A) → In v xs → test v ≡ true → In v (filter test xs)
  in_filter [] h e = absurd h
  in_filter (x ∷ xs) (inl same) e = rw (ap test same ∙ e) (inl same)
  in_filter (x ∷ xs) (inr h) e = elim (cases_Bool (test x))
      [ inl here ↦ rw here (inr (in_filter xs h e)) | inr here ↦ rw here (in_filter xs h e) ]

-- an item that a loop comes to
pub In-item : {A : Type 0} (xs ys : List A) (i : ℕ) (x : A) → i < length xs → x ≡ get_or xs i x → xs ≡ ys → In x ys
In-item xs ys i x h is same = rw same at (subst (λ y. In y xs) (sym is) (In-get_or xs i x h))

-- the lists of the four directions, one after another
abbrev pub four : {A : Type 0} → (Direction → List A) → List A
four f = f UpLeft ++ (f UpRight ++ (f DownLeft ++ f DownRight))

-- what is of the four lists is of one of them
module _ {A : Type 0} (x : A) (f : Direction → List A) where
  pub In-four : (d : Direction) → In x (f d) → In x (four f)
  In-four UpLeft h = In-left x (f UpLeft) _ h
  In-four UpRight h = In-right x (f UpLeft) _ (In-left x (f UpRight) _ h)
  In-four DownLeft h = In-right x (f UpLeft) _ (In-right x (f UpRight) _ (In-left x (f DownLeft) _ h))
  In-four DownRight h = In-right x (f UpLeft) _ (In-right x (f UpRight) _ (In-right x (f DownLeft) _ h))

  pub In-from_four : In x (four f) → (d : Direction) × In x (f d)
  In-from_four h =
      elim (In-cases x (f UpLeft) _ h) [
        | inl a ↦ (UpLeft, a)
        | inr r ↦ elim (In-cases x (f UpRight) _ r) [
          | inl a ↦ (UpRight, a)
          | inr r ↦ elim (In-cases x (f DownLeft) (f DownRight) r) [ inl a ↦ (DownLeft, a) | inr a ↦ (DownRight, a) ]
        ]
      ]

-- whether a test holds of one of the four directions
abbrev pub one_of : (Direction → Bool) → Bool
one_of t = t UpLeft || (t UpRight || (t DownLeft || t DownRight))

pub one_of-none : (t : Direction → Bool) → one_of t ≡ false → (d : Direction) → t d ≡ false
one_of-none t e d =
    let first = or_parts (t UpLeft) _ e in
    let second = or_parts (t UpRight) _ first.1 in
    let last = or_parts (t DownLeft) (t DownRight) second.1 in
    elim d as (λ way. t way ≡ false)
    [ UpLeft ↦ first.0 | UpRight ↦ second.0 | DownLeft ↦ last.0 | DownRight ↦ last.1 ]

pub list_any-four : {A : Type 0} (test : A → Bool) (f : Direction → List A)
    → list_any test (four f) ≡ one_of (λ d. list_any test (f d))
list_any-four test f = simp list_any-append

pub one_of-false : (t : Direction → Bool) → ((d : Direction) → t d ≡ false) → one_of t ≡ false
one_of-false t none = rw (none UpLeft, none UpRight, none DownLeft, none DownRight)
