-- The rows that the elements of a list have, where an element changes or is added.
use Rattle.std.proofs.Common.{◌≡◌, ℕ, zero, suc, ◌+◌, inl, inr, List, [], ◌∷◌, ◌++◌, length, Some, true, refl, sym}
use Rattle.std.proofs.Common.{subst, subst₂, arith}
use Rattle.std.specs.Prelude.{slice_get, slice_set}
use Rattle.sqlite.specs.Order.{Row, column}
use Rattle.sqlite_rules.specs.Lists.{Has}
use Rattle.sqlite_rules.proofs.ListLemmas.{has_either, has_left, has_right}
use Rattle.store_tables.specs.internal.Changes.{Alters}
use Rattle.store_tables.specs.Content.{same_key}
use Rattle.club_laws.proofs.Proved.{got-append, got-set, set-got, get-append, at-last, put-at}
use Rattle.club_rows.specs.Tables.{number, gathered_from}
use Rattle.club_rows.proofs.KeyPairs.{same-numbers}

module _ {A : Type 0} (rows : ℕ → A → List Row) where
  -- a row is that of an element
  pub gathered-had : (id : ℕ) (xs : List A) (z : Row) → Has (gathered_from rows id xs) z → (n : ℕ) × (x : A)
      × (slice_get xs n ≡ Some x) × Has (rows (id + n) x) z
  gathered-had id [] z h = absurd h
  gathered-had id (x ∷ xs) z h = elim (has_either (rows id x) (gathered_from rows (suc id) xs) z h) [
    | inl here ↦ let same : id ≡ id + 0 = omega arith in (0, x, refl, subst (λ k. Has (rows k x) z) same here)
    | inr later ↦
        let (n, y, at, has) = gathered-had (suc id) xs z later in
        let same : suc id + n ≡ id + suc n = omega arith in
        (suc n, y, at, subst (λ k. Has (rows k y) z) same has)
  ]

  pub gathered-has : (id : ℕ) (xs : List A) (n : ℕ) (x : A) (z : Row) → slice_get xs n ≡ Some x
      → Has (rows (id + n) x) z → Has (gathered_from rows id xs) z
  gathered-has id [] n x z at h = cc
  gathered-has id (y ∷ ys) zero x z at h =
      let same : id + 0 ≡ id = omega arith in
      let is : x ≡ y = cc in
      has_left (rows id y) (gathered_from rows (suc id) ys) z (subst₂ (λ k w. Has (rows k w) z) same is h)
  gathered-has id (y ∷ ys) (suc n) x z at h =
      let same : id + suc n ≡ suc id + n = omega arith in
      has_right (rows id y) (gathered_from rows (suc id) ys) z
      (gathered-has (suc id) ys n x z at (subst (λ k. Has (rows k x) z) same h))

  -- where the rows of each element begin with its number and no two of them have one key
  module _ (numbered : (id : ℕ) (x : A) (z : Row) → Has (rows id x) z → column z 0 ≡ number id)
      (apart : (id : ℕ) (x : A) (z w : Row) → Has (rows id x) z → Has (rows id x) w → same_key (0 ∷ 1 ∷ []) z w ≡ true
      → z ≡ w) where
    -- no two rows of all have one key
    pub gathered-apart : (xs : List A) (z w : Row) → Has (gathered_from rows 1 xs) z → Has (gathered_from rows 1 xs) w
        → same_key (0 ∷ 1 ∷ []) z w ≡ true → z ≡ w
    gathered-apart xs z w h g same =
        let (m, x, at, has) = gathered-had 1 xs z h in
        let (n, y, there, had) = gathered-had 1 xs w g in
        let ids = same-numbers z w (1 + m) (1 + n) (numbered (1 + m) x z has) (numbered (1 + n) y w had) same in
        let place : m ≡ n = omega (arith, ids) in
        let here : slice_get xs n ≡ Some x = subst (λ k. slice_get xs k ≡ Some x) place at in
        let is : x ≡ y = cc in
        apart (1 + n) y z w (subst₂ (λ k e. Has (rows (1 + k) e) z) place is has) had same

    -- what alters the rows of an element alters all rows
    pub gathered-set : (xs : List A) (i : ℕ) (old new : A) (changed : List Row) → slice_get xs i ≡ Some old
        → Alters (0 ∷ 1 ∷ []) changed (rows (1 + i) old) (rows (1 + i) new)
        → Alters (0 ∷ 1 ∷ []) changed (gathered_from rows 1 xs) (gathered_from rows 1 (slice_set xs i new))
    gathered-set xs i old new changed at_i it = record {
      among = λ z h. gathered-has 1 (slice_set xs i new) i new z (put-at xs i old new at_i) (it.among z h);
      from = λ z h.
          let (n, y, at, has) = gathered-had 1 (slice_set xs i new) z h in
          elim (got-set xs i new n y at) [
            | inl was ↦ inl (gathered-has 1 xs n y z was has)
            | inr here ↦ elim (it.from z (subst₂ (λ k w. Has (rows (1 + k) w) z) here.0 (sym here.1) has)) [
              | inl old_row ↦ inl (gathered-has 1 xs i old z at_i old_row)
              | inr put ↦ inr put
            ]
          ];
      stays = λ z h.
          let (n, y, at, has) = gathered-had 1 xs z h in
          elim (set-got xs i new n y at) [
            | inl kept ↦ inl (gathered-has 1 (slice_set xs i new) n y z kept has)
            | inr here ↦
                let there : slice_get xs n ≡ Some old = subst (λ k. slice_get xs k ≡ Some old) (sym here.0) at_i in
                let is : y ≡ old = cc in
                elim (it.stays z (subst₂ (λ k w. Has (rows (1 + k) w) z) here.0 is has)) [
                  | inl stays ↦ inl (gathered-has 1 (slice_set xs i new) i new z (put-at xs i old new at_i) stays)
                  | inr by ↦ inr by
                ]
          ];
      one = gathered-apart (slice_set xs i new);
    }

    -- an element more adds its rows
    pub gathered-added : (xs : List A) (new : A)
        → Alters (0 ∷ 1 ∷ []) (rows (1 + length xs) new) (gathered_from rows 1 xs)
        (gathered_from rows 1 (xs ++ new ∷ []))
    gathered-added xs new = record {
      among = λ z h. gathered-has 1 (xs ++ new ∷ []) (length xs) new z (at-last xs new) h;
      from = λ z h.
          let (n, y, at, has) = gathered-had 1 (xs ++ new ∷ []) z h in
          elim (got-append xs new n y at) [
            | inl old ↦ inl (gathered-has 1 xs n y z old has)
            | inr last ↦ inr (subst₂ (λ k w. Has (rows (1 + k) w) z) last.0 (sym last.1) has)
          ];
      stays = λ z h.
          let (n, y, at, has) = gathered-had 1 xs z h in
          inl (gathered-has 1 (xs ++ new ∷ []) n y z (get-append xs (new ∷ []) n y at) has);
      one = gathered-apart (xs ++ new ∷ []);
    }
