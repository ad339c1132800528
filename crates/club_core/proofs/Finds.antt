-- Looking for an element of a list of rows finds it in the list of what the rows stand for.
use Rattle.std.proofs.Common.{◌≡◌, ℕ, suc, ◌+◌, List, [], ◌∷◌, length, map, Option, Some, None, Bool, true, false, not}
use Rattle.std.proofs.Common.{zero, cond, refl, ap, arith, ltb, ◌||◌, ◌-◌}
use Rattle.std.proofs.lemmas.Bool.Decides.{nat_tests}
use Rattle.std.specs.Prelude.{if◌then◌else◌, slice_get}
use Rattle.std.specs.Option.{option_map}
use Rattle.std.specs.List.{find, position, position_or_len, list_any}
use Rattle.club_core.specs.Members.{find_id}

module _ {A B : Type 0} (test : B → Bool) (f : A → B) where
  found-next : (b : Bool) (n len : ℕ) (rest : Option ℕ) → rest ≡ option_map suc (cond (ltb n len) (Some n) None)
      → (if b then Some 1 else option_map suc rest) ≡ option_map suc
      (cond (ltb (cond (not b) (1 + n) 0) (suc len)) (Some (cond (not b) (1 + n) 0)) None)
  found-next true n len rest is = grind (arith, nat_tests)
  found-next false n len rest is = grind (arith, nat_tests)

  pub find_id-map : (xs : List A) → find_id test (map f xs) ≡ option_map suc (position (λ x. test (f x)) xs)
  find_id-map [] = refl
  find_id-map (x ∷ xs) =
      found-next (test (f x)) (position_or_len (λ y. test (f y)) xs) (length xs) (find_id test (map f xs))
      (find_id-map xs)

  pub list_any-map : (xs : List A) → list_any test (map f xs) ≡ list_any (λ x. test (f x)) xs
  list_any-map [] = refl
  list_any-map (x ∷ xs) = ap (λ b. test (f x) || b) (list_any-map xs)

  -- an element that is found has the id that is found
  pub found-map : (xs : List A) (x : A) → find (λ y. test (f y)) xs ≡ Some x → (k : ℕ)
      × (find_id test (map f xs) ≡ Some (suc k)) × (slice_get (map f xs) k ≡ Some (f x))
  found-map [] x is = cc
  found-map (y ∷ ys) x is = here (test (f y)) (found-map ys x) is
    where
      here : (b : Bool) → (find (λ z. test (f z)) ys ≡ Some x → (k : ℕ)
          × (find_id test (map f ys) ≡ Some (suc k)) × (slice_get (map f ys) k ≡ Some (f x)))
          → cond b (Some y) (find (λ z. test (f z)) ys) ≡ Some x → (k : ℕ)
          × ((if b then Some 1 else option_map suc (find_id test (map f ys))) ≡ Some (suc k))
          × (slice_get (map f (y ∷ ys)) k ≡ Some (f x))
      here true rest found = let e : y ≡ x = cc in (0, refl, ap (λ z. Some (f z)) e)
      here false rest found = let (k, there, at) = rest found in (suc k, rw there refl, at)

  pub none-map : (xs : List A) → find (λ y. test (f y)) xs ≡ None → find_id test (map f xs) ≡ None
  none-map [] is = refl
  none-map (y ∷ ys) is = here (test (f y)) (none-map ys) is
    where
      here : (b : Bool) → (find (λ z. test (f z)) ys ≡ None → find_id test (map f ys) ≡ None)
          → cond b (Some y) (find (λ z. test (f z)) ys) ≡ None
          → (if b then Some 1 else option_map suc (find_id test (map f ys))) ≡ None
      here true rest found = cc
      here false rest found = rw (rest found) refl
