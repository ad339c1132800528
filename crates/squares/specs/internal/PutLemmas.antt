-- Lemmas about the elements of a list after sorted insertions. No promise of the program rests on these definitions.
use Rattle.std.proofs.Common.{◌≡◌, ℕ, ◌⊎◌, inl, inr, List, [], ◌∷◌, ◌++◌, refl, sym, ap, ◌∙◌, subst, ◌+◌, ◌<◌, ◌≤◌}
use Rattle.std.proofs.Common.{length, take, drop, get_or, arith, append_assoc}
use Rattle.std.proofs.lemmas.Grind.{common_steps}
use Rattle.std.proofs.lemmas.List.{drop_more, take_more, take_all, take-append-drop, map-append, flat_map_more}
use Rattle.std.specs.Prelude.{map}
use Rattle.std.specs.List.{flat_map}
use Rattle.std.specs.List.{AllByRecursion}
use Rattle.std.specs.List.Sorted.{IsStrictlySortedBy}
use Rattle.std.specs.Ordering.{ordering_reverse}
use Rattle.std.specs.Cmp.{IsTotalOrder}
use Rattle.std.specs.declared.cmp.Ordering.{Ordering}
use Rattle.std.specs.declared.cmp.Ordering.TheVariants.{Less, Equal, Greater}
use Rattle.squares.specs.OrderedLists.{put_by, put, put_all}
use Rattle.squares.specs.internal.In.{In, In-cases}

pub map-flat_map : {A B C : Type 0} (g : B → C) (f : A → List B) (xs : List A)
    → map g (flat_map f xs) ≡ flat_map (λ x. map g (f x)) xs
map-flat_map g f [] = refl
map-flat_map g f (x ∷ xs) = map-append g (f x) (flat_map f xs) ∙ ap (λ r. map g (f x) ++ r) (map-flat_map g f xs)

module _ {A : Type 0} (order : A → A → Ordering) (total : IsTotalOrder order) where
  pub put-in : (m y : A) (xs : List A) → In y (put order m xs) → In y xs ⊎ (m ≡ y)
  put-in m y [] (inl e) = inr e
  put-in m y [] (inr never) = absurd never
  put-in m y (x ∷ xs) h =
      elim (order x m) as (λ o. In y (put_by o m x xs (put order m xs)) → In y (x ∷ xs) ⊎ (m ≡ y)) [
        | Less ↦
            λ k. elim k [ inl e ↦ inl (inl e) | inr r ↦ elim (put-in m y xs r) [ inl a ↦ inl (inr a) | inr e ↦ inr e ] ]
        | Equal ↦ λ k. inl k
        | Greater ↦ λ k. elim k [ inl e ↦ inr e | inr r ↦ inl r ]
      ] h

  pub put-keeps : (m y : A) (xs : List A) → In y xs → In y (put order m xs)
  put-keeps m y [] h = absurd h
  put-keeps m y (x ∷ xs) h =
      elim (order x m) as (λ o. In y (put_by o m x xs (put order m xs))) [
        | Less ↦ elim h [ inl e ↦ inl e | inr r ↦ inr (put-keeps m y xs r) ]
        | Equal ↦ h
        | Greater ↦ inr h
      ]

  -- If only equal elements of the list compare as equal to the inserted one.
  pub put-has : (m : A) (xs : List A) → ((x : A) → In x xs → order x m ≡ Equal → x ≡ m) → In m (put order m xs)
  put-has m [] same = inl refl
  put-has m (x ∷ xs) same =
      elim (order x m) as (λ o. order x m ≡ o → In m (put_by o m x xs (put order m xs))) [
        | Less ↦ λ _. inr (put-has m xs (λ y h. same y (inr h)))
        | Equal ↦ λ e. inl (same x (inl refl) e)
        | Greater ↦ λ _. inl refl
      ] refl

  pub less_all : (x : A) (ys : List A) → ((y : A) → In y ys → order x y ≡ Less)
      → AllByRecursion (λ y. order x y ≡ Less) ys
  less_all x [] h = tt
  less_all x (y ∷ ys) h = (h y (inl refl), less_all x ys (λ z k. h z (inr k)))

  pub all_less : (x y : A) (ys : List A) → AllByRecursion (λ z. order x z ≡ Less) ys → In y ys → order x y ≡ Less
  all_less x y [] h k = absurd k
  all_less x y (z ∷ ys) h (inl e) = ap (order x) (sym e) ∙ h.0
  all_less x y (z ∷ ys) h (inr k) = all_less x y ys h.1 k

  -- A sorted list followed by a sorted list of greater elements is sorted.
  pub append-sorted : (xs ys : List A) → IsStrictlySortedBy order xs → IsStrictlySortedBy order ys
      → ((x y : A) → In x xs → In y ys → order x y ≡ Less) → IsStrictlySortedBy order (xs ++ ys)
  unfolding IsStrictlySortedBy
  append-sorted [] ys s t h = t
  append-sorted (x ∷ xs) ys s t h = (
    less_all x (xs ++ ys)
        (λ y k. elim (In-cases y xs ys k) [ inl a ↦ all_less x y xs s.0 a | inr b ↦ h x y (inl refl) b ]),
    append-sorted xs ys s.1 t (λ a b k l. h a b (inr k) l),
  )

  pub put-sorted : (m : A) (xs : List A) → IsStrictlySortedBy order xs → IsStrictlySortedBy order (put order m xs)
  unfolding IsStrictlySortedBy
  put-sorted m [] h = (tt, tt)
  put-sorted m (x ∷ xs) h =
      elim (order x m) as (λ o. order x m ≡ o → IsStrictlySortedBy order (put_by o m x xs (put order m xs))) [
        | Less ↦ λ e. (
          less_all x (put order m xs)
              (λ y k. elim (put-in m y xs k) [ inl a ↦ all_less x y xs h.0 a | inr is ↦ ap (order x) (sym is) ∙ e ]),
          put-sorted m xs h.1,
        )
        | Equal ↦ λ _. h
        | Greater ↦ λ e.
            let before : order m x ≡ Less = total.antisymm m x ∙ ap ordering_reverse e in (
              less_all m (x ∷ xs)
                  (λ y k. elim k [
                    | inl is ↦ ap (order m) (sym is) ∙ before
                    | inr r ↦
                        total.trans m x y before (all_less x y xs h.0 r)
                  ]),
              h,
            )
      ] refl

  pub put_all-sorted : (ms xs : List A) → IsStrictlySortedBy order xs → IsStrictlySortedBy order (put_all order ms xs)
  put_all-sorted [] xs h = h
  put_all-sorted (m ∷ ms) xs h = put_all-sorted ms (put order m xs) (put-sorted m xs h)

  pub put_all-in : (ms xs : List A) (y : A) → In y (put_all order ms xs) → In y xs ⊎ In y ms
  put_all-in [] xs y h = inl h
  put_all-in (m ∷ ms) xs y h =
      elim (put_all-in ms (put order m xs) y h) [
        | inl a ↦ elim (put-in m y xs a) [ inl old ↦ inl old | inr e ↦ inr (inl e) ]
        | inr r ↦ inr (inr r)
      ]

  put_all-keeps : (ms xs : List A) (y : A) → In y xs → In y (put_all order ms xs)
  put_all-keeps [] xs y h = h
  put_all-keeps (m ∷ ms) xs y h = put_all-keeps ms (put order m xs) y (put-keeps m y xs h)

  -- If only equal elements of the two lists compare as equal.
  pub put_all-has : (ms xs : List A) (y : A) → ((a b : A) → In a xs ⊎ In a ms → In b ms → order a b ≡ Equal → a ≡ b)
      → In y ms → In y (put_all order ms xs)
  put_all-has [] xs y same h = absurd h
  put_all-has (m ∷ ms) xs y same (inl e) =
      put_all-keeps ms (put order m xs) y
      (subst (λ z. In z (put order m xs)) e (put-has m xs (λ x k t. same x m (inl k) (inl refl) t)))
  put_all-has (m ∷ ms) xs y same (inr h) =
      put_all-has ms (put order m xs) y
      (λ a b k l t. same a b
      (elim k [ inl old ↦ elim (put-in m a xs old) [ inl o ↦ inl o | inr e ↦ inr (inl e) ] | inr r ↦ inr (inr r) ])
      (inr l) t)
      h

  pub put_all-append : (ms ns xs : List A) → put_all order (ms ++ ns) xs ≡ put_all order ns (put_all order ms xs)
  put_all-append [] ns xs = refl
  put_all-append (m ∷ ms) ns xs = put_all-append ms ns (put order m xs)

  -- Steps of a loop that searches for the insertion place.
  module _ (m x : A) (xs : List A) (i : ℕ) (h : i < length xs) (is : x ≡ get_or xs i x)
      (rest : take i xs ++ put order m (drop i xs) ≡ put order m xs) where
    here : drop i xs ≡ x ∷ drop (i + 1) xs
    here = drop_more xs i x h ∙ ap (λ y. y ∷ drop (i + 1) xs) (sym is)

    by_here : put order m (drop i xs) ≡ put_by (order x m) m x (drop (i + 1) xs) (put order m (drop (i + 1) xs))
    by_here = ap (put order m) here

    pub put-at_equal : order x m ≡ Equal → xs ≡ put order m xs
    put-at_equal e =
        sym (take-append-drop i xs) ∙ ap (λ r. take i xs ++ r)
        (here ∙ sym (by_here ∙ ap (λ o. put_by o m x (drop (i + 1) xs) (put order m (drop (i + 1) xs))) e)) ∙ rest

    pub put-at_greater : order x m ≡ Greater → take i xs ++ m ∷ drop i xs ≡ put order m xs
    put-at_greater e =
        ap (λ r. take i xs ++ r) (ap (λ r. m ∷ r) here
        ∙ sym (by_here ∙ ap (λ o. put_by o m x (drop (i + 1) xs) (put order m (drop (i + 1) xs))) e)) ∙ rest

    pub put-at_less : order x m ≡ Less → take (i + 1) xs ++ put order m (drop (i + 1) xs) ≡ put order m xs
    put-at_less e =
        ap (λ r. r ++ put order m (drop (i + 1) xs)) (take_more xs i x h ∙ ap (λ y. take i xs ++ y ∷ []) (sym is))
        ∙ append_assoc (take i xs) (x ∷ []) (put order m (drop (i + 1) xs))
        ∙ ap (λ r. take i xs ++ r)
        (sym (by_here ∙ ap (λ o. put_by o m x (drop (i + 1) xs) (put order m (drop (i + 1) xs))) e)) ∙ rest

  pub put-at_end : (m : A) (xs : List A) (i : ℕ) → length xs ≤ i → take i xs ++ put order m (drop i xs) ≡ put order m xs
      → xs ++ m ∷ [] ≡ put order m xs
  put-at_end m xs i h rest =
      let none : drop i xs ≡ [] = grind (arith, common_steps) in
      sym (ap (λ r. r ++ m ∷ []) (take_all i xs h)) ∙ ap (λ r. take i xs ++ put order m r) (sym none) ∙ rest

  -- The part of one more element.
  pub put_all-more : {B : Type 0} (f : B → List A) (xs : List B) (i : ℕ) (x : B) (before old new : List A)
      → i < length xs → x ≡ get_or xs i x → old ≡ put_all order (flat_map f (take i xs)) before
      → new ≡ put_all order (f x) old → new ≡ put_all order (flat_map f (take (i + 1) xs)) before
  put_all-more f xs i x before old new h is so_far step =
      step ∙ ap (put_all order (f x)) so_far ∙ sym (put_all-append (flat_map f (take i xs)) (f x) before)
      ∙ ap (λ ms. put_all order ms before) (flat_map_more f [] (take i xs) x
      ∙ ap (flat_map f) (ap (λ y. take i xs ++ y ∷ []) is ∙ sym (take_more xs i x h)))
