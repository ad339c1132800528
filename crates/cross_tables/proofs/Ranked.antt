-- Lists of the same members that are both in the order of places are the same, if a member determines its element.
use Rattle.std.proofs.Common.{◌≡◌, ◌∙◌, ◌+◌, ◌<◌, ◌≤◌, ◌==◌, ℕ, suc, Bool, false, List, [], ◌∷◌, length, get_or, refl}
use Rattle.std.proofs.Common.{sym, ap, subst, arith, inl, inr}
use Rattle.std.specs.Prelude.{if◌then◌else◌}
use Rattle.std.specs.List.{count_by}
use Rattle.std.proofs.lemmas.Bool.{cases_Bool, eqb-true}
use Rattle.std.proofs.lemmas.Grind.{common_steps}
use Rattle.std.proofs.lemmas.List.Sums.{sum_by-cons, get_or-le-sum_by}
use Rattle.cross_tables.proofs.Adding.{adds}

module _ {X : Type 0} (member : X → ℕ) where
  -- how often a member is in a list
  abbrev pub count : ℕ → List X → ℕ
  count m xs = count_by (λ x. member x == m) xs

  count-cons : (m : ℕ) (x : X) (xs : List X) → count m (x ∷ xs) ≡ adds (member x == m) 1 + count m xs
  count-cons m x xs = sum_by-cons (λ s. if member s == m then 1 else 0) x xs

  found : (m : ℕ) (xs : List X) → 0 < count m xs
      → (i : ℕ) × (i < length xs) × ((d : X) → member (get_or xs i d) ≡ m)
  found m [] h = absurd (omega (arith, h))
  found m (x ∷ xs) h = elim (cases_Bool (member x == m)) [
    | inl is ↦ (0, omega arith, λ _. eqb-true (member x) m is)
    | inr other ↦
        let (i, low, at) = found m xs (omega (arith, h, count-cons m x xs, ap (λ b. adds b 1) other)) in
        (suc i, omega (arith, low), at)
  ]

  counted : (x : X) (xs : List X) → 0 < count (member x) (x ∷ xs)
  counted x xs =
      let at_least = get_or-le-sum_by (λ s. if member s == member x then 1 else 0) (x ∷ xs) 0 x (omega arith) in
      grind (arith, common_steps, at_least)

  module _ (of : ℕ → X) (above : X → X → Bool)
      (ties : (x y : X) → above x y ≡ false → above y x ≡ false → member x ≡ member y) where
    -- each is its member's, and of any two the later one is not above the other
    pub record AreInOrder (xs : List X) : Type 0 where
      pub own : (i : ℕ) (d : X) → i < length xs → get_or xs i d ≡ of (member (get_or xs i d))
      pub far : (i j : ℕ) (d : X) → i ≤ j → j < length xs → above (get_or xs j d) (get_or xs i d) ≡ false

    in-tail : (x : X) (xs : List X) → AreInOrder (x ∷ xs) → AreInOrder xs
    in-tail x xs are = record {
      own = λ i d h. are.own (suc i) d (omega (arith, h));
      far = λ i j d le h. are.far (suc i) (suc j) d (omega (arith, le)) (omega (arith, h));
    }

    same-element : (x y : X) → x ≡ of (member x) → y ≡ of (member y) → member x ≡ member y → x ≡ y
    same-element x y one two m = one ∙ (ap of m ∙ sym two)

    -- what is in the list is not above its first
    none-above : (x y : X) (ys : List X) → AreInOrder (y ∷ ys) → x ≡ of (member x) → 0 < count (member x) (y ∷ ys)
        → above x y ≡ false
    none-above x y ys are own h =
        let (i, low, is) = found (member x) (y ∷ ys) h in
        subst (λ z. above z y ≡ false) (same-element (get_or (y ∷ ys) i x) x (are.own i x low) own (is x))
        (are.far 0 i x (omega arith) low)

    pub alike : (xs ys : List X) → AreInOrder xs → AreInOrder ys → ((m : ℕ) → count m xs ≡ count m ys) → xs ≡ ys
    alike [] [] ox oy same = refl
    alike [] (y ∷ ys) ox oy same = absurd (omega (arith, same (member y), counted y ys))
    alike (x ∷ xs) [] ox oy same = absurd (omega (arith, same (member x), counted x xs))
    alike (x ∷ xs) (y ∷ ys) ox oy same =
        let own-x = ox.own 0 x (omega arith) in
        let own-y = oy.own 0 y (omega arith) in
        let up = none-above x y ys oy own-x (omega (arith, same (member x), counted x xs)) in
        let down = none-above y x xs ox own-y (omega (arith, same (member y), counted y ys)) in
        let first : x ≡ y = same-element x y own-x own-y (ties x y up down) in
        let rest = alike xs ys (in-tail x xs ox) (in-tail y ys oy) (λ m. omega (
          arith,
          same m,
          count-cons m x xs,
          count-cons m y ys,
          ap (λ s. adds (member s == m) 1) first,
        )) in
        λ i. first i ∷ rest i
