-- Rows that begin with integers.
use Rattle.std.proofs.Common.{◌≡◌, ◌≢◌, ℕ, ℤ, pos, inl, inr, suc, false, List, [], ◌∷◌, map, length, ◌+◌, ◌<◌, ◌<ℤ◌}
use Rattle.std.proofs.Common.{◌≤ℤ◌, Less, Equal, IsTrue, rules, refl, sym, ap, subst, subst₂, ◌∙◌, arith, get_or}
use Rattle.std.proofs.Common.{IsSorted, is_lt}
use Rattle.std.specs.List.{AllByRecursion}
use Rattle.std.specs.Cmp.{int_chain, int_cmp_is, tied_itself}
use Rattle.std.proofs.lemmas.Int.{ints}
use Rattle.std.specs.Int.Signed.{<ℤ_irrefl, clash_ℤ}
use Rattle.sqlite_value.specs.declared.value.Value.{Value}
use Rattle.sqlite_value.specs.declared.value.Value.TheVariants.{Int}
use Rattle.sqlite_value.specs.Order.{value_cmp}
use Rattle.sqlite_value.proofs.OrderLemmas.{value_cmp_total, value_cmp-Int}
use Rattle.store_tables.specs.Sql.{Row, column, Has}
use Rattle.sqlite_trees.specs.Tree.{IsAscending}
use Rattle.sqlite_trees.specs.View.{is_int}
use Rattle.sqlite_trees.proofs.ListLemmas.{all-map, all_of, ascending_from_map, all_from_map, ascending-get_or}
use Rattle.sqlite_trees.proofs.ListLemmas.{ascending-map, ascending_weaker}
use Rattle.sqlite_rules.specs.Edit.{id_in}
use Rattle.sqlite_rules.proofs.ListLemmas.{all_has}
use Rattle.sqlite_rules.proofs.TableLemmas.{int_is}
use Rattle.store_tables.specs.internal.Cells.{Rises}
use Rattle.store_tables.specs.internal.Reading.{AreIds, by_columns}
use Rattle.store_tables.proofs.KeyLemmas.{int_same}
use Rattle.store_tables.proofs.OrderLemmas.{got, same_length}

-- A list rises where each element is above the one before it.
module _ {X : Type 0} (R : X → X → Type 0) (trans : (a b c : X) → R a b → R b c → R a c) (d : X) where
  abbrev Adjacent : List X → Type 0
  Adjacent xs = (k j : ℕ) → j ≡ k + 1 → j < length xs → R (get_or xs k d) (get_or xs j d)

  rest : (x : X) (xs : List X) → Adjacent (x ∷ xs) → Adjacent xs
  rest x xs adjacent k j next h = adjacent (suc k) (suc j) (omega arith) (omega arith)

  above : (m : X) (xs : List X) → Adjacent xs → (0 < length xs → R m (get_or xs 0 d)) → AllByRecursion (R m) xs
  above m [] adjacent first = tt
  above m (x ∷ xs) adjacent first = (
    first (omega arith),
    above m xs (rest x xs adjacent)
        (λ h. trans m x (get_or xs 0 d) (first (omega arith)) (adjacent 0 1 (omega arith) (omega arith))),
  )

  ascends : (xs : List X) → Adjacent xs → IsAscending R xs
  ascends [] adjacent = tt
  ascends (x ∷ xs) adjacent = (
    above x xs (rest x xs adjacent) (λ h. adjacent 0 1 (omega arith) (omega arith)),
    ascends xs (rest x xs adjacent),
  )

pub rising : (xs : List ℤ) → ((k j : ℕ) (d : ℤ) → j ≡ k + 1 → j < length xs → get_or xs k d <ℤ get_or xs j d) → Rises xs
rising xs adjacent = ascends (λ a b. a <ℤ b) int_chain (pos 0) xs (λ k j. adjacent k j (pos 0))

-- two neighbours that do not rise
pub fallen : (xs : List ℤ) (i j : ℕ) (d : ℤ) → j ≡ i + 1 → j < length xs → get_or xs j d ≤ℤ get_or xs i d → ¬ Rises xs
fallen xs i j d next within fall up =
    clash_ℤ (ascending-get_or (λ a b. a <ℤ b) xs i j d up (omega (arith, next)) within) fall

abbrev first : Row → Value
first r = column r 0

abbrev Differ : Value → Value → Type 0
Differ a b = value_cmp a b ≢ Equal

all_ints : (ids : List ℤ) → AllByRecursion (λ v. IsTrue (is_int v)) (map Int ids)
all_ints ids = all-map (λ v. IsTrue (is_int v)) Int ids (all_of (λ n. IsTrue (is_int (Int n))) (λ n. refl) ids)

pub ids_that_rise : (rows : List Row) (ids : List ℤ) → map first rows ≡ map Int ids → Rises ids → AreIds rows
ids_that_rise rows ids same up = record {
  apart = ascending_from_map Differ first rows (subst (IsAscending Differ) (sym same) (ascending-map Differ Int ids
      (ascending_weaker (λ a b. a <ℤ b) (λ a b. Differ (Int a) (Int b))
      (λ a b less tied. <ℤ_irrefl (subst (λ n. n <ℤ b) (int_same a b tied) less)) ids up)));
  ints = all_from_map (λ v. IsTrue (is_int v)) first rows
      (subst (AllByRecursion (λ v. IsTrue (is_int v))) (sym same) (all_ints ids));
}

-- ---- rows in order, whose ids are apart, rise

abbrev Lower : Value → Value → Type 0
Lower a b = value_cmp a b ≡ Less

lower_int : (a b : ℤ) → a <ℤ b → Lower (Int a) (Int b)
lower_int a b less = value_cmp-Int a b ∙ sym (int_cmp_is a b Less less)

not_lower : (a b : Row) → is_lt (by_columns 1 b a) ≡ false → value_cmp (first b) (first a) ≢ Less
not_lower a b lower less = let none = rw less at lower in cc

between : (x y : ℤ) → ¬ (y <ℤ x) → x ≢ y → x <ℤ y
between x y least differ = grind (arith, ints, least, differ)

id_at : (rows : List Row) (ids : List ℤ) (i : ℕ) (d : ℤ) (r : Row) → map first rows ≡ map Int ids → i < length ids
    → column (get_or rows i r) 0 ≡ Int (get_or ids i d)
id_at rows ids i d r same within =
    let long : length rows ≡ length ids = sym (same_length first rows) ∙ ap length same ∙ same_length Int ids in
    sym (got first rows i (Int d) r (omega (arith, long))) ∙ ap (λ l. get_or l i (Int d)) same
    ∙ got Int ids i (Int d) d within

pub sorted_rise : (rows : List Row) (ids : List ℤ) → map first rows ≡ map Int ids → IsSorted (by_columns 1) rows
    → AreIds rows → Rises ids
sorted_rise rows ids same sorted are = rising ids (λ k j d next within.
    let long : length rows ≡ length ids = sym (same_length first rows) ∙ ap length same ∙ same_length Int ids in
    let r : Row = [] in
    let here = id_at rows ids k d r same (omega (arith, next)) in
    let there = id_at rows ids j d r same within in
    let x = get_or ids k d in
    let y = get_or ids j d in
    let apart : Differ (Int x) (Int y) = subst₂ Differ here there
    (ascending-get_or (λ a b. Differ (first a) (first b)) rows k j r are.apart (omega (arith, next))
    (omega (arith, long))) in
    let lower = not_lower (get_or rows k r) (get_or rows j r)
    (rw (← next) at (sorted k r (omega (arith, long, next)) (omega (arith, long, next)))) in
    let least : ¬ (y <ℤ x) = λ less. (subst₂ (λ a b. value_cmp a b ≢ Less) there here lower)
    (lower_int y x less) in
    between x y least (λ e. apart (ap (λ n. value_cmp (Int x) (Int n)) (sym e) ∙ tied_itself value_cmp_total (Int x))))

-- ---- two lists of the same rows, in order

never_itself : (a : Value) → ¬ Lower a a
never_itself a less = let e = sym (tied_itself value_cmp_total a) ∙ less in cc

never_both : (a b : Value) → Lower a b → ¬ Lower b a
never_both a b less more = never_itself a (value_cmp_total.trans a b a less more)

abbrev Rise : List Row → Type 0
Rise rows = IsAscending (λ a b. Lower (first a) (first b)) rows

ints_of : (rows : List Row) → AllByRecursion (λ r. IsTrue (is_int (column r 0))) rows → (ids : List ℤ)
    × (map first rows ≡ map Int ids)
ints_of [] h = ([], refl)
ints_of (r ∷ rows) h = let rest = ints_of rows h.1 in
    (id_in (first r) ∷ rest.0, ap (λ l. first r ∷ l) rest.1 ∙ ap (λ v. v ∷ map Int rest.0) (int_is (first r) h.0))

rows_rise : (rows : List Row) (ids : List ℤ) → map first rows ≡ map Int ids → Rises ids → Rise rows
rows_rise rows ids same up = ascending_from_map Lower first rows
    (subst (IsAscending Lower) (sym same)
    (ascending-map Lower Int ids (ascending_weaker (λ a b. a <ℤ b) (λ a b. Lower (Int a) (Int b)) lower_int ids up)))

pub in_order : (rows : List Row) → IsSorted (by_columns 1) rows → AreIds rows → Rise rows
in_order rows sorted are = let it = ints_of rows are.ints in
    rows_rise rows it.0 it.1 (sorted_rise rows it.0 it.1 sorted are)

same_head : (x y : Row) (xs ys : List Row) → Rise (x ∷ xs) → Rise (y ∷ ys) → Has (y ∷ ys) x → Has (x ∷ xs) y → x ≡ y
same_head x y xs ys up over (inl same) k = same
same_head x y xs ys up over (inr h) (inl same) = sym same
same_head x y xs ys up over (inr h) (inr k) =
    absurd
    (never_both (first x) (first y) (all_has (λ z. Lower (first x) (first z)) xs y up.0 k)
    (all_has (λ z. Lower (first y) (first z)) ys x over.0 h))

in_rest : (x y z : Row) (xs ys : List Row) → x ≡ y → Rise (x ∷ xs) → Has xs z → Has (y ∷ ys) z → Has ys z
in_rest x y z xs ys same up h (inl e) = absurd
    (never_itself (first x)
    (subst (λ v. Lower (first x) (first v)) (e ∙ sym same) (all_has (λ v. Lower (first x) (first v)) xs z up.0 h)))
in_rest x y z xs ys same up h (inr k) = k

-- the same rows that rise are the same list
pub one_list : (xs ys : List Row) → Rise xs → Rise ys → ((z : Row) → Has xs z → Has ys z)
    → ((z : Row) → Has ys z → Has xs z) → xs ≡ ys
one_list [] [] up over to from = refl
one_list [] (y ∷ ys) up over to from = absurd (from y (inl refl))
one_list (x ∷ xs) [] up over to from = absurd (to x (inl refl))
one_list (x ∷ xs) (y ∷ ys) up over to from =
    let same : x ≡ y = same_head x y xs ys up over (to x (inl refl)) (from y (inl refl)) in
    let rest : xs ≡ ys = one_list xs ys up.1 over.1 (λ z h. in_rest x y z xs ys same up h (to z (inr h)))
    (λ z h. in_rest y x z ys xs (sym same) over h (from z (inr h))) in
    ap (λ l. x ∷ l) rest ∙ ap (λ r. r ∷ ys) same

pos_less : (a b : ℕ) → a < b → pos a <ℤ pos b
pos_less a b less = search rules

-- ids that are places rise
pub places_rise : (rows : List Row) → ((k : ℕ) → k < length rows → column (get_or rows k []) 0 ≡ Int (pos (k + 1)))
    → Rise rows
places_rise rows places =
    ascends (λ a b. Lower (first a) (first b)) (λ a b c. value_cmp_total.trans (first a) (first b) (first c)) [] rows
    (λ k j next within.
    subst₂ Lower (sym (places k (omega (arith, next, within)))) (sym (places j within))
    (lower_int (pos (k + 1)) (pos (j + 1)) (pos_less (k + 1) (j + 1) (omega (arith, next)))))
