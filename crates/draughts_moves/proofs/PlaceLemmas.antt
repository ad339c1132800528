-- The order of moves is total, and the place of an element in a list in order is looked for from the end of the list.
use Rattle.std.proofs.Common.{◌≡◌, ℕ, ◌+◌, ◌-◌, ◌<◌, ◌≤◌, List, [], ◌∷◌, ◌++◌, length, take, drop, get_or, refl, sym}
use Rattle.std.proofs.Common.{ap, ◌∙◌, subst, append_assoc, arith}
use Rattle.std.proofs.lemmas.Grind.{common_steps}
use Rattle.std.proofs.lemmas.List.{drop_more, take_more, take-append-drop, append-nil, take_all}
use Rattle.std.specs.List.Sorted.{IsStrictlySortedBy}
use Rattle.std.specs.List.{AllByRecursion}
use Rattle.std.specs.Ordering.{ordering_reverse}
use Rattle.std.specs.Cmp.{IsTotalOrder, on_total}
use Rattle.std.specs.Cmp.Lexicographic.{nat_list_cmp_total}
use Rattle.std.specs.declared.cmp.Ordering.{Ordering}
use Rattle.std.specs.declared.cmp.Ordering.TheVariants.{Less, Equal, Greater}
use Rattle.squares.specs.OrderedLists.{put_by, put}
use Rattle.draughts_moves.specs.Listing.{key_of, move_cmp}

pub move_cmp-total : IsTotalOrder move_cmp
move_cmp-total = on_total key_of nat_list_cmp_total

module _ {A : Type 0} (order : A → A → Ordering) (total : IsTotalOrder order) where
  -- an element behind stays behind
  put-before : (m x : A) (ys : List A) → order x m ≡ Greater → put order m (ys ++ x ∷ []) ≡ put order m ys ++ x ∷ []
  put-before m x [] e = ap (λ o. put_by o m x [] (m ∷ [])) e
  put-before m x (y ∷ ys) e =
      elim (order y m) as (λ o. put_by o m y (ys ++ x ∷ []) (put order m (ys ++ x ∷ []))
      ≡ put_by o m y ys (put order m ys) ++ x ∷ []) [
        | Less ↦ ap (λ r. y ∷ r) (put-before m x ys e)
        | Equal ↦ refl
        | Greater ↦ refl
      ]

  abbrev AllBelow : A → List A → Type 0
  AllBelow m ys = AllByRecursion (λ y. order y m ≡ Less) ys

  -- what is below stays in front
  put-past : (m : A) (ys zs : List A) → AllBelow m ys → put order m (ys ++ zs) ≡ ys ++ put order m zs
  put-past m [] zs h = refl
  put-past m (y ∷ ys) zs h = rw h.0 (ap (λ r. y ∷ r) (put-past m ys zs h.1))

  below_at : (y x : A) (ys zs : List A) → AllByRecursion (λ z. order y z ≡ Less) (ys ++ x ∷ zs) → order y x ≡ Less
  below_at y x [] zs h = h.0
  below_at y x (v ∷ ys) zs h = below_at y x ys zs h.1

  -- in a list in order, what is before an element is below what is not below that
  sorted-below : (x m : A) (ys zs : List A) → ((y : A) → order y x ≡ Less → order y m ≡ Less)
      → IsStrictlySortedBy order (ys ++ x ∷ zs) → AllBelow m ys
  unfolding IsStrictlySortedBy
  sorted-below x m [] zs less h = tt
  sorted-below x m (y ∷ ys) zs less h = (less y (below_at y x ys zs h.0), sorted-below x m ys zs less h.1)

  -- The steps of a loop that has passed some elements and looks for the place, from the end.
  module _ (m : A) (xs : List A) (count passed : ℕ) where
    -- what is left of the list, with the element put in, and then what was passed
    abbrev pub IsLeft : ℕ → Type 0
    IsLeft i = put order m (take i xs) ++ drop i xs ≡ put order m xs

    pub place-begin : count ≡ length xs → IsLeft (count - 0)
    place-begin e =
        let all : count - 0 ≡ length xs = omega arith in
        let none : drop (length xs) xs ≡ [] = grind (arith, common_steps) in
        rw (all, take_all (length xs) xs (omega arith), none, append-nil)

    pub place-first : count ≤ passed → IsLeft (count - passed) → m ∷ xs ≡ put order m xs
    place-first end left = let none : count - passed ≡ 0 = omega arith in rw none at left

    module _ (x : A) (e : count ≡ length xs) (more : passed < count) (left : IsLeft (count - passed))
        (is : x ≡ get_or xs (count - 1 - passed) x) where
      abbrev i : ℕ
      i = count - 1 - passed

      front : take (i + 1) xs ≡ take i xs ++ x ∷ []
      front = take_more xs i x (omega arith) ∙ ap (λ y. take i xs ++ y ∷ []) (sym is)

      here : drop i xs ≡ x ∷ drop (i + 1) xs
      here = drop_more xs i x (omega arith) ∙ ap (λ y. y ∷ drop (i + 1) xs) (sym is)

      rest : put order m (take i xs ++ x ∷ []) ++ drop (i + 1) xs ≡ put order m xs
      rest = let same : count - passed ≡ i + 1 = omega arith in rw (same, front) at left

      pub place-greater : order x m ≡ Greater → IsLeft (count - (passed + 1))
      place-greater greater =
          let same : count - (passed + 1) ≡ i = omega arith in
          rw (same, here)
          (sym (append_assoc (put order m (take i xs)) (x ∷ []) (drop (i + 1) xs))
          ∙ (rw (put-before m x (take i xs) greater) at rest))

      module _ (sorted : IsStrictlySortedBy order xs) where
        below : ((y : A) → order y x ≡ Less → order y m ≡ Less) → AllBelow m (take i xs)
        below less =
            sorted-below x m (take i xs) (drop (i + 1) xs) less
            (subst (IsStrictlySortedBy order) (sym (take-append-drop i xs) ∙ ap (λ r. take i xs ++ r) here) sorted)

        pub place-equal : order x m ≡ Equal → xs ≡ put order m xs
        place-equal tied =
            let less : (y : A) → order y x ≡ Less → order y m ≡ Less =
            λ y l. total.antisymm y m ∙ ap ordering_reverse (sym (total.congr x m y tied))
            ∙ sym (total.antisymm y x) ∙ l
            in
            sym (take-append-drop (i + 1) xs) ∙ ap (λ ys. ys ++ drop (i + 1) xs) front
            ∙ (rw (put-past m (take i xs) (x ∷ []) (below less), tied) at rest)

        pub place-less : order x m ≡ Less → take (i + 1) xs ++ m ∷ drop (i + 1) xs ≡ put order m xs
        place-less less =
            rw (front, append_assoc (take i xs) (x ∷ []))
            (rw (
              put-past m (take i xs) (x ∷ []) (below (λ y l. total.trans y x m l less)),
              less,
              append_assoc (take i xs) (x ∷ m ∷ []),
            ) at rest)
