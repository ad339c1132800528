-- Rows that are put into a table that has an id for each place of a list.
use Rattle.std.proofs.Common.{◌≡◌, ℕ, suc, ◌+◌, ◌<◌, List, [], ◌∷◌, ◌++◌, length, get_or, Some, false}
use Rattle.std.proofs.Common.{refl, ap, sym, subst, subst₂, ◌∙◌, arith, inl, inr, ◌⊎◌, true≢false, Bool, true}
use Rattle.std.specs.Prelude.{if◌then◌else◌, slice_get, slice_set}
use Rattle.std.proofs.lemmas.Bool.{cases_Bool, false_from_ne_true}
use Rattle.std.proofs.lemmas.List.{append-nil}
use Rattle.std.proofs.lemmas.Option.{slice_get_within, slice_get-get_or}
use Rattle.sqlite.specs.Order.{Row, column}
use Rattle.sqlite_rules.specs.Lists.{Has}
use Rattle.sqlite_rules.proofs.ListLemmas.{has_either, has_left, has_right}
use Rattle.club_laws.proofs.Proved.{got-append, got-set, set-got, get-append, at-last, put-at}
use Rattle.club_rows.specs.Tables.{number, numbered_from, gathered_from}
pub use Rattle.club_rows.proofs.Proved.{gathered-had as gathered_had, gathered-has as gathered_has}
use Rattle.store_tables.specs.Content.{same_key}
use Rattle.store_tables.specs.internal.Content.{put}
pub use Rattle.store_tables.proofs.Proved.{same_itself, same_by, put_had, put_kept}
pub use Rattle.club_changes.proofs.PlacedRows.{same_list, AreAtPlaces, one_line}
pub use Rattle.club_changes.proofs.PlacedIds.{pos_same, number_same, ids_agree, ids_same, numbers_same}
pub use Rattle.club_changes.proofs.PlacedIds.{had_at, numbered_had, numbered_has}
pub use Rattle.club_changes.proofs.PlacedIds.{numbered_at, numbered_length, take_next}
use Rattle.club_changes.proofs.PlacedIds.{first_of, gathered_last, numbered_got, numbered_in}
use Rattle.club_changes.specs.Steps.{HaveSame}

-- one table, and those after it
infixr 30 ◌&◌
pub ◌&◌ : {A B : Type 0} → A → B → A × B
one & more = (one, more)

-- ---- keys

pub ids_apart : (a b : Row) (m n : ℕ) → column a 0 ≡ number m → column b 0 ≡ number n → (m ≡ n → ⊥)
    → same_key (0 ∷ []) a b ≡ false
ids_apart a b m n p q apart = false_from_ne_true _ (λ same. apart (ids_same a b m n p q same))

pub pairs_apart : (a b : Row) (m n k j : ℕ) → column a 0 ≡ number m → column b 0 ≡ number n → column a 1 ≡ number k
    → column b 1 ≡ number j → (m ≡ n → k ≡ j → ⊥) → same_key (0 ∷ 1 ∷ []) a b ≡ false
pairs_apart a b m n k j p q r t apart =
    false_from_ne_true _ (λ same. let both = numbers_same a b m n k j p q r t same in apart both.0 both.1)

-- ---- a row that is put

-- the one row of a table is replaced
pub one_replaced : (old new : Row) (m : ℕ) → column old 0 ≡ number m → column new 0 ≡ number m
    → HaveSame (put (0 ∷ []) new (old ∷ [])) (new ∷ [])
one_replaced old new m p q = record {
  there = λ z h. elim (put_had (0 ∷ []) new (old ∷ []) z h) [
    | inl is ↦ inl is
    | inr was ↦ elim was.0 [
      | inl is ↦
          absurd (true≢false (sym (ids_agree old new m p q) ∙ (ap (λ x. same_key (0 ∷ []) x new) (sym is) ∙ was.1)))
      | inr none ↦ absurd none
    ]
  ];
  back = λ z h. elim h [ inl is ↦ inl is | inr none ↦ absurd none ];
}

-- ---- elements of lists

-- a choice of two that have one value
pub if_same : {A B : Type 0} (f : A → B) (b : Bool) (x y : A) → f x ≡ f y → f (if b then x else y) ≡ f y
if_same f true x y same = same
if_same f false x y same = refl

pub at_get : {A : Type 0} (xs : List A) (k : ℕ) (x : A) → k < length xs → x ≡ get_or xs k x → slice_get xs k ≡ Some x
at_get xs k x within is = slice_get-get_or xs k x within ∙ ap Some (sym is)

-- ---- a row for each element, by ids that count up

module _ {A : Type 0} (row : ℕ → A → Row) where
  module _ (first : (id : ℕ) (x : A) → column (row id x) 0 ≡ number id) where
    pub numbered_places : (id : ℕ) (xs : List A) (k : ℕ) → k < length (numbered_from row id xs)
        → column (get_or (numbered_from row id xs) k []) 0 ≡ number (id + k)
    numbered_places id xs k within =
        let at = slice_get-get_or (numbered_from row id xs) k [] within in
        let (x, stands, is) = numbered_got row id xs k _ at in ap (λ w. column w 0) is ∙ first (id + k) x

    -- a row with the next id is put
    pub row_added : (xs : List A) (x : A) → HaveSame (put (0 ∷ []) (row (1 + length xs) x) (numbered_from row 1 xs))
        (numbered_from row 1 (xs ++ x ∷ []))
    row_added xs x = let r = row (1 + length xs) x in record {
      there = λ z h. elim (put_had (0 ∷ []) r (numbered_from row 1 xs) z h) [
        | inl new ↦ numbered_in row (xs ++ x ∷ []) (length xs) x z (at-last xs x) new
        | inr old ↦
            let (n, y, at, same) = numbered_had row 1 xs z old.0 in
            numbered_in row (xs ++ x ∷ []) n y z (get-append xs (x ∷ []) n y at) same
      ];
      back = λ z h.
          let (n, y, at, same) = numbered_had row 1 (xs ++ x ∷ []) z h in
          elim (got-append xs x n y at) [
            | inl old ↦
                let within = slice_get_within xs n y old in
                put_kept (0 ∷ []) r (numbered_from row 1 xs) z (numbered_in row xs n y z old same)
                (ids_apart z r (1 + n) (1 + length xs) (first_of row first z n y same) (first (1 + length xs) x)
                (λ e. absurd (omega (arith, e, within))))
            | inr new ↦ inl (same ∙ (ap (λ k. row (1 + k) y) new.0 ∙ ap (row (1 + length xs)) (sym new.1)))
          ];
    }

    -- a row is put for the one with its id
    pub row_replaced : (xs : List A) (i : ℕ) (old new : A) → slice_get xs i ≡ Some old
        → HaveSame (put (0 ∷ []) (row (1 + i) new) (numbered_from row 1 xs)) (numbered_from row 1 (slice_set xs i new))
    row_replaced xs i old new at_i = let r = row (1 + i) new in record {
      there = λ z h. elim (put_had (0 ∷ []) r (numbered_from row 1 xs) z h) [
        | inl put ↦ numbered_in row (slice_set xs i new) i new z (put-at xs i old new at_i) put
        | inr was ↦
            let (n, y, at, same) = numbered_had row 1 xs z was.0 in
            elim (set-got xs i new n y at) [
              | inl kept ↦ numbered_in row (slice_set xs i new) n y z kept same
              | inr here ↦
                  let first_z = first_of row first z n y same ∙ ap (λ k. number (1 + k)) here.0 in
                  absurd (true≢false (sym (ids_agree z r (1 + i) first_z (first (1 + i) new)) ∙ was.1))
            ]
      ];
      back = λ z h.
          let (n, y, at, same) = numbered_had row 1 (slice_set xs i new) z h in
          elim (cases_Bool (same_key (0 ∷ []) z r)) [
            | inl alike ↦
                let here = ids_same z r (1 + n) (1 + i) (first_of row first z n y same) (first (1 + i) new) alike in
                let n_is : n ≡ i = omega (arith, here) in
                let there : slice_get (slice_set xs i new) n ≡ Some new =
                subst (λ k. slice_get (slice_set xs i new) k ≡ Some new) (sym n_is) (put-at xs i old new at_i) in
                let y_is : y ≡ new = cc in
                inl (same ∙ (λ j. row (1 + n_is j) (y_is j)))
            | inr other ↦ elim (got-set xs i new n y at) [
              | inl was ↦ put_kept (0 ∷ []) r (numbered_from row 1 xs) z (numbered_in row xs n y z was same) other
              | inr put ↦ inl (same ∙ (ap (λ k. row (1 + k) y) put.0 ∙ ap (row (1 + i)) (sym put.1)))
            ]
          ];
    }

-- ---- the rows of each element

module _ {A : Type 0} (rows : ℕ → A → List Row) where
  -- an element that has no rows adds none
  pub nothing_added : (xs : List A) (x : A) → ((id : ℕ) → rows id x ≡ [])
      → HaveSame (gathered_from rows 1 xs) (gathered_from rows 1 (xs ++ x ∷ []))
  nothing_added xs x none = same_by _ _ (sym (gathered_last rows 1 xs x
      ∙ (ap (λ l. gathered_from rows 1 xs ++ l) (none (1 + length xs)) ∙ append-nil (gathered_from rows 1 xs))))

  module _ (xs : List A) (i : ℕ) (old new : A) (at_i : slice_get xs i ≡ Some old) where
    -- a row of an element is one of the old's, or stays where the new stands in its place
    row_stays : (z : Row) → Has (gathered_from rows 1 xs) z → Has (rows (1 + i) old) z
        ⊎ Has (gathered_from rows 1 (slice_set xs i new)) z
    row_stays z h =
        let (n, y, at, has) = gathered_had rows 1 xs z h in
        elim (set-got xs i new n y at) [
          | inl kept ↦ inr (gathered_has rows 1 (slice_set xs i new) n y z kept has)
          | inr here ↦
              let there : slice_get xs n ≡ Some old = subst (λ k. slice_get xs k ≡ Some old) (sym here.0) at_i in
              let y_is : y ≡ old = cc in
              inl (subst₂ (λ k w. Has (rows (1 + k) w) z) here.0 y_is has)
        ]

    -- and a row then is one of the new's, or stood
    row_stood : (z : Row) → Has (gathered_from rows 1 (slice_set xs i new)) z → Has (rows (1 + i) new) z
        ⊎ ((n : ℕ) × (x : A) × (slice_get xs n ≡ Some x) × Has (rows (1 + n) x) z)
    row_stood z h =
        let (n, y, at, has) = gathered_had rows 1 (slice_set xs i new) z h in
        elim (got-set xs i new n y at) [
          | inl was ↦ inr (n, y, was, has)
          | inr here ↦ inl (subst₂ (λ k w. Has (rows (1 + k) w) z) here.0 (sym here.1) has)
        ]

    has_new : (z : Row) → Has (rows (1 + i) new) z → Has (gathered_from rows 1 (slice_set xs i new)) z
    has_new z h = gathered_has rows 1 (slice_set xs i new) i new z (put-at xs i old new at_i) h

    -- one element gets one row more, whose key no row has
    pub one_row_more_by : (key : List ℕ) (r : Row) → rows (1 + i) new ≡ rows (1 + i) old ++ r ∷ []
        → ((n : ℕ) (x : A) (z : Row) → slice_get xs n ≡ Some x → Has (rows (1 + n) x) z
        → same_key key z r ≡ false)
        → HaveSame (put key r (gathered_from rows 1 xs)) (gathered_from rows 1 (slice_set xs i new))
    one_row_more_by key r grown fresh = record {
      there = λ z h. elim (put_had key r (gathered_from rows 1 xs) z h) [
        | inl is ↦ has_new z (subst (λ l. Has l z) (sym grown) (has_right (rows (1 + i) old) (r ∷ []) z (inl is)))
        | inr was ↦ elim (row_stays z was.0) [
          | inl of_old ↦ has_new z (subst (λ l. Has l z) (sym grown) (has_left (rows (1 + i) old) (r ∷ []) z of_old))
          | inr stays ↦ stays
        ]
      ];
      back = λ z h. elim (row_stood z h) [
        | inl now ↦ elim (has_either (rows (1 + i) old) (r ∷ []) z (subst (λ l. Has l z) grown now)) [
          | inl before ↦ put_kept key r (gathered_from rows 1 xs) z
              (gathered_has rows 1 xs i old z at_i before) (fresh i old z at_i before)
          | inr last ↦ elim last [ inl is ↦ inl is | inr none ↦ absurd none ]
        ]
        | inr (n, y, was, has) ↦ put_kept key r (gathered_from rows 1 xs) z
            (gathered_has rows 1 xs n y z was has) (fresh n y z was has)
      ];
    }

    -- the same under a key of two columns
    pub one_row_more : (r : Row) → rows (1 + i) new ≡ rows (1 + i) old ++ r ∷ []
        → ((n : ℕ) (x : A) (z : Row) → slice_get xs n ≡ Some x → Has (rows (1 + n) x) z
        → same_key (0 ∷ 1 ∷ []) z r ≡ false)
        → HaveSame (put (0 ∷ 1 ∷ []) r (gathered_from rows 1 xs)) (gathered_from rows 1 (slice_set xs i new))
    one_row_more r grown fresh = one_row_more_by (0 ∷ 1 ∷ []) r grown fresh

    -- one element is replaced by another with the same rows
    pub rows_kept : rows (1 + i) new ≡ rows (1 + i) old
        → HaveSame (gathered_from rows 1 xs) (gathered_from rows 1 (slice_set xs i new))
    rows_kept kept = record {
      there = λ z h. elim (row_stays z h)
          [ inl of_old ↦ has_new z (subst (λ l. Has l z) (sym kept) of_old) | inr stays ↦ stays ];
      back = λ z h. elim (row_stood z h) [
        | inl now ↦ gathered_has rows 1 xs i old z at_i (subst (λ l. Has l z) kept now)
        | inr (n, y, was, has) ↦ gathered_has rows 1 xs n y z was has
      ];
    }

-- ---- rows that do not change

pub numbered_alike : {A : Type 0} (row other : ℕ → A → Row) (id : ℕ) (xs : List A)
    → ((n : ℕ) (x : A) → slice_get xs n ≡ Some x → (k : ℕ) → row k x ≡ other k x)
    → numbered_from row id xs ≡ numbered_from other id xs
numbered_alike row other id [] same = refl
numbered_alike row other id (x ∷ xs) same =
    let here = same 0 x refl id in
    let rest = numbered_alike row other (suc id) xs (λ n y at. same (suc n) y at) in
    λ i. here i ∷ rest i

pub gathered_alike : {A : Type 0} (rows others : ℕ → A → List Row) (id : ℕ) (xs : List A)
    → ((n : ℕ) (x : A) → slice_get xs n ≡ Some x → (k : ℕ) → rows k x ≡ others k x)
    → gathered_from rows id xs ≡ gathered_from others id xs
gathered_alike rows others id [] same = refl
gathered_alike rows others id (x ∷ xs) same =
    let here = same 0 x refl id in
    let rest = gathered_alike rows others (suc id) xs (λ n y at. same (suc n) y at) in
    λ i. here i ++ rest i
