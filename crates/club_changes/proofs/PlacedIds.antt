-- Rows with an id for each place of a list, and those of the elements that pass a test.
use Rattle.std.proofs.Common.{◌≡◌, ℕ, zero, suc, ◌+◌, List, [], ◌∷◌, ◌++◌, length, map, take, drop, pos, Some, Bool}
use Rattle.std.proofs.Common.{true, false, cond, refl, ap, sym, subst, subst₂, ◌∙◌, arith, inl, inr}
use Rattle.std.proofs.Common.{append_assoc}
use Rattle.std.specs.Prelude.{slice_get, count_by, if◌then◌else◌}
use Rattle.std.specs.Cmp.{tied_itself}
use Rattle.std.proofs.lemmas.Bool.{cases_Bool, and_parts, and_from}
use Rattle.std.proofs.lemmas.List.{append-nil, take_more, drop_more}
use Rattle.std.proofs.lemmas.Option.{get_or_from_slice_get, slice_get_within}
use Rattle.std.proofs.lemmas.List.Sums.{sum_by-cons}
use Rattle.sqlite.specs.Order.{Row, column}
use Rattle.sqlite.specs.Collation.TheVariants.{Binary}
use Rattle.sqlite_schema.specs.Rules.{equal}
use Rattle.sqlite_value.specs.Keys.{first_key}
use Rattle.sqlite_value.proofs.OrderLemmas.{value_cmp_total}
use Rattle.sqlite_rules.specs.Lists.{Has}
use Rattle.club_laws.proofs.Proved.{map-at, map-got}
use Rattle.club_rows.specs.Tables.{number, numbered_from, gathered_from}
use Rattle.club_rows.proofs.Proved.{gathered-had, gathered-has}
use Rattle.store_tables.specs.internal.Changes.{Alters}
use Rattle.store_tables.specs.Content.{same_key}
use Rattle.store_tables.proofs.Proved.{equal_ints, equal_from}

-- ---- keys

pub pos_same : (m n : ℕ) → pos m ≡ pos n → m ≡ n
pos_same m n is = cc

pub number_same : (m n : ℕ) → number m ≡ number n → m ≡ n
number_same m n is = cc

value_itself : (m : ℕ) → equal Binary (number m) (number m) ≡ true
value_itself m = equal_from (number m) (number m) refl refl (tied_itself value_cmp_total (number m))

pub ids_agree : (a b : Row) (m : ℕ) → column a 0 ≡ number m → column b 0 ≡ number m → same_key (0 ∷ []) a b ≡ true
unfolding first_key
ids_agree a b m p q = rw (p, q) (and_from _ _ (value_itself m) refl)

pub ids_same : (a b : Row) (m n : ℕ) → column a 0 ≡ number m → column b 0 ≡ number n → same_key (0 ∷ []) a b ≡ true
    → m ≡ n
unfolding first_key
ids_same a b m n p q same =
    pos_same m n (equal_ints (pos m) (pos n) (subst₂ (λ x y. equal Binary x y ≡ true) p q (and_parts _ _ same).0))

pub numbers_same : (a b : Row) (m n k j : ℕ) → column a 0 ≡ number m → column b 0 ≡ number n → column a 1 ≡ number k
    → column b 1 ≡ number j → same_key (0 ∷ 1 ∷ []) a b ≡ true → (m ≡ n) × (k ≡ j)
unfolding first_key
numbers_same a b m n k j p q r t same =
    let h = rw (p, q, r, t) at same in
    let one = and_parts _ _ h in
    (pos_same m n (equal_ints _ _ one.0), pos_same k j (equal_ints _ _ (and_parts _ _ one.1).0))

-- ---- a row for each element, by ids that count up

pub had_at : (xs : List Row) (z : Row) → Has xs z → (n : ℕ) × (slice_get xs n ≡ Some z)
had_at [] z h = absurd h
had_at (x ∷ xs) z (inl is) = (0, ap Some (sym is))
had_at (x ∷ xs) z (inr h) = let (n, at) = had_at xs z h in (suc n, at)

module _ {A : Type 0} (row : ℕ → A → Row) where
  -- the element whose row stands at a place
  pub numbered_got : (id : ℕ) (xs : List A) (k : ℕ) (z : Row) → slice_get (numbered_from row id xs) k ≡ Some z → (x : A)
      × (slice_get xs k ≡ Some x) × (z ≡ row (id + k) x)
  numbered_got id [] k z at = cc
  numbered_got id (x ∷ xs) zero z at = let is : z ≡ row id x = cc in
      let here : id ≡ id + 0 = omega arith in (x, refl, is ∙ ap (λ k. row k x) here)
  numbered_got id (x ∷ xs) (suc k) z at =
      let (y, stands, is) = numbered_got (suc id) xs k z at in
      let later : suc id + k ≡ id + suc k = omega arith in
      (y, stands, is ∙ ap (λ j. row j y) later)

  pub numbered_had : (id : ℕ) (xs : List A) (z : Row) → Has (numbered_from row id xs) z → (n : ℕ) × (x : A)
      × (slice_get xs n ≡ Some x) × (z ≡ row (id + n) x)
  numbered_had id xs z h =
      let (n, at) = had_at (numbered_from row id xs) z h in
      let (x, stands, is) = numbered_got id xs n z at in (n, x, stands, is)

  pub numbered_has : (id : ℕ) (xs : List A) (n : ℕ) (x : A) → slice_get xs n ≡ Some x
      → Has (numbered_from row id xs) (row (id + n) x)
  numbered_has id [] n x at = cc
  numbered_has id (y ∷ ys) zero x at =
      let here : id + 0 ≡ id = omega arith in
      let same : x ≡ y = cc in
      inl (ap (λ k. row k x) here ∙ ap (row id) same)
  numbered_has id (y ∷ ys) (suc n) x at =
      let later : suc id + n ≡ id + suc n = omega arith in
      inr (subst (λ k. Has (numbered_from row (suc id) ys) (row k x)) later (numbered_has (suc id) ys n x at))

  pub numbered_in : (xs : List A) (n : ℕ) (x : A) (z : Row) → slice_get xs n ≡ Some x → z ≡ row (1 + n) x
      → Has (numbered_from row 1 xs) z
  numbered_in xs n x z at is = subst (Has (numbered_from row 1 xs)) (sym is) (numbered_has 1 xs n x at)

  pub numbered_length : (id : ℕ) (xs : List A) → length (numbered_from row id xs) ≡ length xs
  numbered_length id [] = refl
  numbered_length id (x ∷ xs) = ap suc (numbered_length (suc id) xs)

  pub numbered_at : {R : Type 0} (cells : R → Row) (id : ℕ) (rs : List R) (xs : List A)
      → map cells rs ≡ numbered_from row id xs → (k : ℕ) (r : R) → slice_get rs k ≡ Some r → (x : A)
      × (slice_get xs k ≡ Some x) × (cells r ≡ row (id + k) x)
  numbered_at cells id rs xs same k r at = numbered_got id xs k (cells r)
      (ap (λ l. slice_get l k) (sym same) ∙ map-at cells rs k r at)

pub first_of : {A : Type 0} (row : ℕ → A → Row) → ((id : ℕ) (x : A) → column (row id x) 0 ≡ number id) → (z : Row)
    (n : ℕ) (x : A) → z ≡ row (1 + n) x → column z 0 ≡ number (1 + n)
first_of row first z n x is = ap (λ w. column w 0) is ∙ first (1 + n) x

-- ---- elements of lists

pub take_next : {A : Type 0} (xs : List A) (k : ℕ) (x : A) → slice_get xs k ≡ Some x
    → take (k + 1) xs ≡ take k xs ++ x ∷ []
take_next xs k x at = take_more xs k x (slice_get_within xs k x at)
    ∙ ap (λ y. take k xs ++ y ∷ []) (get_or_from_slice_get xs k x x at)

pub drop_next : {A : Type 0} (xs : List A) (k : ℕ) (x : A) → slice_get xs k ≡ Some x → drop k xs ≡ x ∷ drop (k + 1) xs
drop_next xs k x at = drop_more xs k x (slice_get_within xs k x at)
    ∙ ap (λ y. y ∷ drop (k + 1) xs) (get_or_from_slice_get xs k x x at)

pub gathered_last : {A : Type 0} (rows : ℕ → A → List Row) (id : ℕ) (xs : List A) (x : A)
    → gathered_from rows id (xs ++ x ∷ []) ≡ gathered_from rows id xs ++ rows (id + length xs) x
gathered_last rows id [] x =
    let here : id ≡ id + 0 = omega arith in
    append-nil (rows id x) ∙ ap (λ k. rows k x) here
gathered_last rows id (y ∷ ys) x =
    let later : suc id + length ys ≡ id + suc (length ys) = omega arith in
    rw (gathered_last rows (suc id) ys x, append_assoc, later)

-- ---- the elements that pass a test change

module _ {A : Type 0} (row : ℕ → A → Row) (passes : A → Bool) (after : A → A) where
  -- the new row of one that passes
  abbrev pub row_if : ℕ → A → List Row
  row_if id x = if passes x then row id (after x) ∷ [] else []

  one_had : (id : ℕ) (x : A) (z : Row) (b : Bool) → passes x ≡ b → Has (row_if id x) z → (b ≡ true)
      × (z ≡ row id (after x))
  one_had id x z true is h = elim (rw is at h) [ inl here ↦ (refl, here) | inr none ↦ absurd none ]
  one_had id x z false is h = absurd (rw is at h)

  one_has : (id : ℕ) (x : A) → passes x ≡ true → Has (row_if id x) (row id (after x))
  one_has id x is = rw is (inl refl)

  pub passing_count : (id : ℕ) (xs : List A) → length (gathered_from row_if id xs) ≡ count_by passes xs
  passing_count id [] = refl
  passing_count id (x ∷ xs) = one (passes x) (passing_count (suc id) xs)
      ∙ sym (sum_by-cons (λ y. cond (passes y) 1 0) x xs)
    where
      one : (b : Bool) → length (gathered_from row_if (suc id) xs) ≡ count_by passes xs
          → length ((if b then row id (after x) ∷ [] else []) ++ gathered_from row_if (suc id) xs)
          ≡ cond b 1 0 + count_by passes xs
      one true rest = let rest_is = rest in omega (arith, rest_is)
      one false rest = let rest_is = rest in omega (arith, rest_is)

  -- one that does not pass stays, and a row begins with its id
  module _ (kept : (x : A) → passes x ≡ false → after x ≡ x)
      (first : (id : ℕ) (x : A) → column (row id x) 0 ≡ number id) where
    pub passing_alter : (xs : List A) → Alters (0 ∷ []) (gathered_from row_if 1 xs) (numbered_from row 1 xs)
        (numbered_from row 1 (map after xs))
    passing_alter xs = record {
      among = λ z h.
          let (n, x, at, has) = gathered-had row_if 1 xs z h in
          let (passed, is) = one_had (1 + n) x z (passes x) refl has in
          numbered_in row (map after xs) n (after x) z (map-at after xs n x at) is;
      from = λ z h.
          let (n, y, at, is) = numbered_had row 1 (map after xs) z h in
          let (x, stands, y_is) = map-got after xs n y at in
          elim (cases_Bool (passes x)) [
            | inl passed ↦
                inr
                (gathered-has row_if 1 xs n x z stands
                (subst (Has (row_if (1 + n) x)) (ap (row (1 + n)) y_is ∙ sym is) (one_has (1 + n) x passed)))
            | inr failed ↦ inl
                (numbered_in row xs n x z stands (is ∙ ap (row (1 + n)) (sym (sym (kept x failed) ∙ y_is))))
          ];
      stays = λ z h.
          let (n, x, at, is) = numbered_had row 1 xs z h in
          elim (cases_Bool (passes x)) [
            | inl passed ↦
                let by = row (1 + n) (after x) in
                let put = gathered-has row_if 1 xs n x by at (one_has (1 + n) x passed) in
                inr (by, put, ids_agree z by (1 + n) (first_of row first z n x is) (first (1 + n) (after x)))
            | inr failed ↦ inl (numbered_in row (map after xs) n (after x) z (map-at after xs n x at)
                (is ∙ ap (row (1 + n)) (sym (kept x failed))))
          ];
      one = λ z w h k same.
          let (n, x, at, z_is) = numbered_had row 1 (map after xs) z h in
          let (m, y, there, w_is) = numbered_had row 1 (map after xs) w k in
          let ids = ids_same z w (1 + n) (1 + m) (first_of row first z n x z_is) (first_of row first w m y w_is) same in
          let place : n ≡ m = omega (arith, ids) in
          let here : slice_get (map after xs) m ≡ Some x = subst (λ j. slice_get (map after xs) j ≡ Some x) place at in
          let one_is : x ≡ y = cc in
          z_is ∙ ((λ j. row (1 + place j) (one_is j)) ∙ sym w_is);
    }
