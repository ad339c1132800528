-- Lists whose elements are told.
use Rattle.std.proofs.Common.{◌≡◌, ◌-◌, ◌<◌, ◌≤◌, ℕ, zero, suc, List, [], ◌∷◌, length, map, Bool, Some, None, refl}
use Rattle.std.proofs.Common.{ap, sym, ◌∙◌}
use Rattle.std.proofs.Common.{arith, get_or}
use Rattle.std.specs.Prelude.{slice_get, ◌||◌}
use Rattle.std.specs.List.{list_any}
use Rattle.club_core.specs.State.{place}

module _ {A B : Type 0} (test : B → Bool) (f : A → B) where
  pub any_told : (xs : List A) → list_any test (map f xs) ≡ list_any (λ x. test (f x)) xs
  any_told [] = refl
  any_told (x ∷ xs) = ap (λ b. test (f x) || b) (any_told xs)

told_get : {A B : Type 0} (f : A → B) (xs : List A) (k : ℕ) (x : A) → k < length xs → x ≡ get_or xs k x
    → slice_get (map f xs) k ≡ Some (f x)
told_get f [] k x within is = absurd (omega arith)
told_get f (y ∷ ys) zero x within is = ap (λ z. Some (f z)) (sym is)
told_get f (y ∷ ys) (suc k) x within is = told_get f ys k x (omega (arith, within)) is

-- what is told of the element of an id
pub told_at : {A B : Type 0} (f : A → B) (xs : List A) (id : ℕ) (x : A) → (id ≡ 0 → ⊥) → id - 1 < length xs
    → x ≡ get_or xs (id - 1) x → place (map f xs) id ≡ Some (f x)
told_at f xs zero x some within is = absurd (some refl)
told_at f xs (suc k) x some within is =
    let k_is : suc k - 1 ≡ k = omega arith in
    told_get f xs k x (omega (arith, within)) (is ∙ ap (λ j. get_or xs j x) k_is)

told_past : {A B : Type 0} (f : A → B) (xs : List A) (k : ℕ) → length xs ≤ k → slice_get (map f xs) k ≡ None
told_past f [] k past = refl
told_past f (y ∷ ys) zero past = absurd (omega (arith, past))
told_past f (y ∷ ys) (suc k) past = told_past f ys k (omega (arith, past))

-- there is none of an id past the last
pub told_none : {A B : Type 0} (f : A → B) (xs : List A) (id : ℕ) → (id ≡ 0 → ⊥) → length xs ≤ id - 1
    → place (map f xs) id ≡ None
told_none f xs zero some past = absurd (some refl)
told_none f xs (suc k) some past = told_past f xs k (omega (arith, past))
