-- Two lists of the same elements in one strict order are one list.
use Rattle.std.proofs.Common.{◌≡◌, List, [], ◌∷◌, refl, sym, inl, inr}
use Rattle.sqlite_trees.specs.Tree.{IsAscending}
use Rattle.sqlite_rules.specs.Lists.{Has}
use Rattle.sqlite_rules.proofs.ListLemmas.{all_has}

module _ {A : Type 0} (R : A → A → Type 0) (one_way : (x y : A) → R x y → R y x → ⊥) where
  same_head : (x y : A) (xs ys : List A) → IsAscending R (x ∷ xs) → IsAscending R (y ∷ ys) → Has (y ∷ ys) x
      → Has (x ∷ xs) y → x ≡ y
  same_head x y xs ys up over (inl same) k = same
  same_head x y xs ys up over (inr h) (inl same) = sym same
  same_head x y xs ys up over (inr h) (inr k) =
      absurd (one_way x y (all_has (R x) xs y up.0 k) (all_has (R y) ys x over.0 h))

  in_rest : (x z : A) (xs ys : List A) → IsAscending R (x ∷ xs) → Has xs z → Has (x ∷ ys) z → Has ys z
  in_rest x z xs ys up h (inl e) =
      let below = rw e at (all_has (R x) xs z up.0 h) in absurd (one_way x x below below)
  in_rest x z xs ys up h (inr k) = k

  pub one_order : (xs ys : List A) → IsAscending R xs → IsAscending R ys → ((z : A) → Has xs z → Has ys z)
      → ((z : A) → Has ys z → Has xs z) → xs ≡ ys
  one_order [] [] up over to from = refl
  one_order [] (y ∷ ys) up over to from = absurd (from y (inl refl))
  one_order (x ∷ xs) [] up over to from = absurd (to x (inl refl))
  one_order (x ∷ xs) (y ∷ ys) up over to from =
      let same : x ≡ y = same_head x y xs ys up over (to x (inl refl)) (from y (inl refl)) in
      let rest : xs ≡ ys = one_order xs ys up.1 over.1
      (λ z h. in_rest x z xs ys up h (rw (← same) at (to z (inr h))))
      (λ z h. in_rest y z ys xs over h (rw same at (from z (inr h)))) in
      λ i. same i ∷ rest i
