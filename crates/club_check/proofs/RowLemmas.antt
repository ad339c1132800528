-- The rows of a table: by the numbers that they begin with, in their order, and each of them once.
use Rattle.std.proofs.Common.{◌≡◌, ℕ, zero, suc, pos, ◌+◌, ◌<◌, ◌≤◌, Bool, true, false, not, List, [], ◌∷◌, length, ◌≢◌}
use Rattle.std.proofs.Common.{ℤ, Some, refl, ap, sym, subst, ◌∙◌, arith, inl, inr, ◌⊎◌, true≢false, filter, ◌&&◌, ltb}
use Rattle.std.proofs.Common.{map, subst₂, Less, Equal, Greater, Ordering, IsTrue, length-append, get_or}
use Rattle.std.specs.Prelude.{slice_get}
use Rattle.std.proofs.lemmas.Bool.{cases_Bool, and_parts, or_parts}
use Rattle.std.proofs.lemmas.List.Filters.{length-filter_both}
use Rattle.std.proofs.lemmas.Option.{slice_get_within}
use Rattle.sqlite_value.specs.Keys.{first_key, plain}
use Rattle.sqlite_value.proofs.OrderLemmas.{value_cmp_total, value_cmp-Int}
use Rattle.sqlite_value.specs.declared.value.Value.TheVariants.{Int}
use Rattle.club_check.specs.internal.RightMoves.{AreOwned, HasMovesOf, HasRulingsOf, HaveMovesOf, HaveRulingsOf}
use Rattle.club_check.specs.internal.RightMoves.{HaveSeenOf, beyond, id_at, seen_in, without}
use Rattle.sqlite.specs.Order.{Row, column}
use Rattle.sqlite_trees.proofs.ListLemmas.{filter-filter, filter-map, all_weaker, ascending-map, all_both}
use Rattle.sqlite_trees.proofs.ListLemmas.{ascending-filter}
use Rattle.sqlite_rules.specs.Lists.{Has}
use Rattle.sqlite_rules.proofs.ListLemmas.{has_filtered, has_kept, all_has, all_from, has_got}
use Rattle.store_tables.specs.Content.{same_key, AreApart, cells, Keeps}
use Rattle.store_tables.proofs.Proved.{equal_cmp, equal_from, equal_ints, differ_ints, pairs_turned, has_index, has_map}
use Rattle.store_tables.proofs.Proved.{has_mapped, has_turned, same_then}
use Rattle.club_rows.specs.Tables.{number, gathered_from, entry_row, entry_rows, with_entry, rows_of_moves}
use Rattle.club_rows.specs.Tables.{rows_of_seen, tables_of, row_of_game}
use Rattle.store_sql.specs.Read.{beginning_with}
use Rattle.store_sql.specs.internal.Read.{IsReadAs, AreReadOf}
use Rattle.club_check.specs.internal.Examined.{past}
use Rattle.store_tables.specs.Changes.{HaveSame}
use Rattle.club_check.proofs.NumberedLemmas.{ids_agree, ids_same, gathered_had, gathered_has, moved}
use Rattle.std.specs.Cmp.{IsTotalOrder, tied_itself}
use Rattle.std.specs.List.{AllByRecursion, list_any}
use Rattle.std.specs.List.Sorted.{IsSorted, IsPermutation}
use Rattle.std.specs.Ordering.{int_cmp, is_lt, ordering_then, ordering_reverse}
use Rattle.std.proofs.lemmas.Bool.Decides.{Decides-ltb}
use Rattle.std.proofs.lemmas.Cmp.{tied_back}
use Rattle.sqlite_value.specs.declared.value.Value.{Value}
use Rattle.sqlite_value.specs.Order.{value_cmp}
use Rattle.sqlite.specs.Collation.TheVariants.{Binary}
use Rattle.sqlite.specs.Tree.{Trees}
use Rattle.sqlite.specs.Values.{IsInt}
use Rattle.sqlite_schema.specs.Rules.{agree, clashes, differ, equal}
use Rattle.sqlite_sql.specs.Ops.{is_null}
use Rattle.sqlite_sql.proofs.QueryLemmas.{key_cmp_total}
use Rattle.sqlite_trees.specs.Tree.{IsAscending, rowid}
use Rattle.sqlite_trees.specs.View.{is_int}
use Rattle.sqlite_rules.proofs.TableLemmas.{int_is}
use Rattle.club_rules.specs.GameRules.{GameRules}
use Rattle.club_core.specs.Events.{Event, Terms}
use Rattle.club_core.specs.Game.{Entry, Game}
use Rattle.club_core.specs.State.{draughts, shogi, place, terms_at}
use Rattle.store_tables.specs.internal.Reading.{by_columns, rising}
use Rattle.store_tables.specs.Tables.{challenges, seen, scores}
use Rattle.club_rows.specs.Club.{ClubGame, both_games, ClubState, IsClub}
use Rattle.sqlite.specs.State.{State}
use Rattle.sqlite.specs.Table.{Table as Definition}
use Rattle.store_tables.specs.Placed.{club_trees}
use Rattle.store_tables.specs.Cells.{IsText, IsChallenge, IsSeen, IsScore, IsMove, IsRuling, game_cells}
use Rattle.club_rows.specs.EachOnce.{AreEachOnce}
use Rattle.club_check.proofs.StoredLemmas.{AreUnique}
use Rattle.std.proofs.lemmas.List.Sorted.{IsPermutation-sym}
use Rattle.store_tables.specs.internal.Queries.{by_others}
use Rattle.club_rows.proofs.Proved.{seen-id, seen-typed}
use Rattle.club_rows.specs.Seen.{texts_of}
use Rattle.club_audit.proofs.Proved.{id-told, numbered-back}
use Rattle.store_tables.specs.internal.Rows.{HaveIds}
use Rattle.store_tables.specs.declared.rows.GameTableRow.{GameTableRow}
use Rattle.store_tables.specs.declared.rows.Rows.{Rows}

abbrev pub begins : ℤ → Row → Bool
begins n x = same_key (0 ∷ []) x (Int n ∷ [])

-- a row begins with one number
begins_once : (x : Row) (m n : ℤ) → begins m x ≡ true → begins n x ≡ true → m ≡ n
unfolding first_key
begins_once x m n p q =
    let one = equal_cmp (column x 0) (Int m) (and_parts _ _ p).0 in
    let two = equal_cmp (column x 0) (Int n) (and_parts _ _ q).0 in
    let tie = sym (value_cmp_total.congr (column x 0) (Int m) (Int n) one) ∙ two in
    equal_ints m n (equal_from (Int m) (Int n) refl refl tie)

not_false : (a : Bool) → a ≡ false → not a ≡ true
not_false false e = refl
not_false true e = cc

not_back : (a : Bool) → not a ≡ true → a ≡ false
not_back false e = refl
not_back true e = cc

pub last_or : (i k : ℕ) → i < suc k → (i ≡ k) ⊎ (i < k)
last_or zero zero low = inl refl
last_or zero (suc k) low = inr (omega arith)
last_or (suc i) zero low = absurd (omega (arith, low))
last_or (suc i) (suc k) low = elim (last_or i k (omega (arith, low))) [
  | inl same ↦ inl (ap suc same)
  | inr less ↦ inr (omega (arith, less))
]

pub cases_zero : (n : ℕ) → (n ≡ 0) ⊎ (0 < n)
cases_zero zero = inl refl
cases_zero (suc n) = inr (omega arith)

-- ids of which no two of the first so many are one
module _ (ids : ℕ → ℤ) (most : ℕ) (apart : (i j : ℕ) → i < j → j < most → ids i ≢ ids j) where
  -- those that begin with a later one are not left out
  kept_later : (k n : ℕ) (rows : List Row) → k ≤ n → n < most
      → filter (begins (ids n)) (without ids k rows) ≡ filter (begins (ids n)) rows
  kept_later zero n rows low within = refl
  kept_later (suc k) n rows low within =
      filter-filter (begins (ids n)) (λ x. not (begins (ids k) x)) (λ x is. other x is) (without ids k rows)
      ∙ kept_later k n rows (omega (arith, low)) within
    where
      other : (x : Row) → begins (ids n) x ≡ true → not (begins (ids k) x) ≡ true
      other x is = elim (cases_Bool (begins (ids k) x)) [
        | inl both ↦ absurd (apart k n (omega (arith, low)) within (begins_once x (ids k) (ids n) both is))
        | inr not_it ↦ not_false (begins (ids k) x) not_it
      ]

  -- with one more, so many fewer are left
  pub without_step : (k : ℕ) (rows : List Row) → k < most
      → length (without ids k rows) ≡ length (beginning_with (ids k) rows) + length (without ids (suc k) rows)
  without_step k rows within =
      let both = length-filter_both (begins (ids k)) (λ x. not (begins (ids k) x)) (λ x. refl) (without ids k rows) in
      sym both ∙ ap (λ l. length l + length (without ids (suc k) rows)) (kept_later k k rows (omega arith) within)

-- the ids of the places are apart
places_apart : (i j : ℕ) → i < j → pos (suc i) ≢ pos (suc j)
places_apart i j less is = let same : suc i ≡ suc j = cc in absurd (omega (arith, less, same))

pub past_step : (k : ℕ) (rows : List Row)
    → length (past k rows) ≡ length (beginning_with (pos (suc k)) rows) + length (past (suc k) rows)
past_step k rows =
    without_step (λ n. pos (suc n)) (suc k) (λ i j less low. places_apart i j less) k rows (omega arith)

module _ (ids : ℕ → ℤ) where
  -- a row is left, or begins with one of the ids
  pub found_before : (k : ℕ) (rows : List Row) (x : Row) → Has rows x → Has (without ids k rows) x
      ⊎ ((i : ℕ) × (i < k) × (begins (ids i) x ≡ true))
  found_before zero rows x h = inl h
  found_before (suc k) rows x h = elim (found_before k rows x h) [
    | inl left ↦ elim (cases_Bool (begins (ids k) x)) [
      | inl is ↦ inr (k, omega arith, is)
      | inr not_it ↦
          inl (has_kept (λ z. not (begins (ids k) z)) (without ids k rows) x left (not_false (begins (ids k) x) not_it))
    ]
    | inr (i, low, is) ↦ inr (i, omega (arith, low), is)
  ]

  -- a row that is left is one of the rows, and begins with none of the ids
  pub left_of : (k : ℕ) (rows : List Row) (x : Row) → Has (without ids k rows) x → Has rows x
      × ((i : ℕ) → i < k → begins (ids i) x ≡ false)
  left_of zero rows x h = (h, λ i low. absurd (omega (arith, low)))
  left_of (suc k) rows x h =
      let (before, not_it) = has_filtered (λ z. not (begins (ids k) z)) (without ids k rows) x h in
      let (there, none) = left_of k rows x before in (
        there,
        λ i low. elim (last_or i k low) [
          | inl same ↦ ap (λ j. begins (ids j) x) same ∙ not_back (begins (ids k) x) not_it
          | inr less ↦ none i less
        ],
      )

pub none_in : (rows : List Row) (x : Row) → length rows ≡ 0 → Has rows x → ⊥
none_in [] x none h = absurd h
none_in (y ∷ rows) x none h = absurd (omega arith)

pub one_in : (rows : List Row) → 0 < length rows → (x : Row) × Has rows x
one_in [] some = absurd (omega arith)
one_in (y ∷ rows) some = (y, inl refl)

pub there_at : {A : Type 0} (xs : List A) (n : ℕ) → n < length xs → (x : A) × (slice_get xs n ≡ Some x)
there_at [] n low = absurd (omega arith)
there_at (x ∷ xs) zero low = (x, refl)
there_at (x ∷ xs) (suc n) low = there_at xs n (omega (arith, low))

pub had_place : {A : Type 0} (xs : List A) (x : A) → Has xs x → (n : ℕ) × (slice_get xs n ≡ Some x)
had_place [] x h = absurd h
had_place (y ∷ xs) x (inl is) = (0, ap Some (sym is))
had_place (y ∷ xs) x (inr h) = let (n, at) = had_place xs x h in (suc n, at)

suc_is : (n : ℕ) → suc n ≡ 1 + n
suc_is n = omega arith

module _ {A : Type 0} (rows_of : ℕ → A → List Row)
    (first : (id : ℕ) (x : A) (z : Row) → Has (rows_of id x) z → column z 0 ≡ number id) (table : List Row)
    (xs : List A) where
  -- A table whose rows each begin with the number of an element, where each element has its rows, is theirs.
  pub table_gathered : length (past (length xs) table) ≡ 0
      → ((n : ℕ) (x : A) → slice_get xs n ≡ Some x → HaveSame (beginning_with (pos (1 + n)) table) (rows_of (1 + n) x))
      → HaveSame table (gathered_from rows_of 1 xs)
  table_gathered none each = record {
    there = λ z h. elim (found_before (λ k. pos (suc k)) (length xs) table z h) [
      | inl left ↦ absurd (none_in (past (length xs) table) z none left)
      | inr (i, low, is) ↦
          let (x, at) = there_at xs i low in
          let begun : same_key (0 ∷ []) z (number (1 + i) ∷ []) ≡ true =
          subst (λ k. begins (pos k) z ≡ true) (suc_is i) is in
          gathered_has rows_of 1 xs i x z at
          ((each i x at).there z (has_kept (λ y. same_key (0 ∷ []) y (number (1 + i) ∷ [])) table z h begun))
    ];
    back = λ z h.
        let (n, x, at, has) = gathered_had rows_of 1 xs z h in
        (has_filtered (λ y. same_key (0 ∷ []) y (number (1 + n) ∷ [])) table z ((each n x at).back z has)).0;
  }

  module _ (same : HaveSame table (gathered_from rows_of 1 xs)) where
    -- In such a table no row begins with another number.
    pub table_past : length (past (length xs) table) ≡ 0
    table_past = elim (cases_zero (length (past (length xs) table))) [
      | inl none ↦ none
      | inr some ↦
          let (x, left) = one_in (past (length xs) table) some in
          let (there, none) = left_of (λ k. pos (suc k)) (length xs) table x left in
          let (n, y, at, has) = gathered_had rows_of 1 xs x (same.there x there) in
          let within = slice_get_within xs n y at in
          absurd
          (true≢false
          (sym
          (subst (λ k. begins (pos k) x ≡ true) (sym (suc_is n))
          (ids_agree x (number (1 + n) ∷ []) (1 + n) (first (1 + n) y x has) refl)) ∙ none n within))
    ]

    -- and those with the number of an element are its rows
    pub table_group : (n : ℕ) (x : A) → slice_get xs n ≡ Some x
        → HaveSame (beginning_with (pos (1 + n)) table) (rows_of (1 + n) x)
    table_group n x at = record {
      there = λ z h.
          let (in_table, is) = has_filtered (λ y. same_key (0 ∷ []) y (number (1 + n) ∷ [])) table z h in
          let (m, y, there, has) = gathered_had rows_of 1 xs z (same.there z in_table) in
          let id = ids_same z (number (1 + n) ∷ []) (1 + m) (1 + n) (first (1 + m) y z has) refl is in
          let place : m ≡ n = omega (arith, id) in
          let here : slice_get xs n ≡ Some y = subst (λ k. slice_get xs k ≡ Some y) place there in
          let one : y ≡ x = cc in
          subst (λ e. Has (rows_of (1 + n) e) z) one (subst (λ k. Has (rows_of (1 + k) y) z) place has);
      back = λ z h.
          has_kept (λ y. same_key (0 ∷ []) y (number (1 + n) ∷ [])) table z
          (same.back z (gathered_has rows_of 1 xs n x z at h))
          (ids_agree z (number (1 + n) ∷ []) (1 + n) (first (1 + n) x z h) refl);
    }

-- ---- the moves of a club are read as the list that they are: by game and ply, each of them once

-- ---- the order by game and ply

abbrev pub by : Row → Row → Ordering
by = by_columns 2

pub by_total : IsTotalOrder by
by_total = key_cmp_total (rising 2) 0

abbrev pub Before : Row → Row → Type 0
Before a b = by a b ≡ Less

abbrev pub Apart : Row → Row → Type 0
Apart a b = by a b ≢ Equal

never_itself : (a : Row) → ¬ Before a a
never_itself a less = let e = sym (tied_itself by_total a) ∙ less in cc

never_both : (a b : Row) → Before a b → ¬ Before b a
never_both a b less more = never_itself a (by_total.trans a b a less more)

pub apart_back : (a b : Row) → Apart a b → Apart b a
apart_back a b apart same = apart (tied_back by_total b a same)

less_of : (x y : Row) → is_lt (by y x) ≡ false → Apart x y → Before x y
less_of x y least apart = go (by x y) refl
  where
    go : (o : Ordering) → by x y ≡ o → by x y ≡ Less
    go Less e = e
    go Equal e = absurd (apart e)
    go Greater e = absurd (true≢false (sym (ap is_lt (by_total.antisymm y x ∙ ap ordering_reverse e)) ∙ least))

-- sorted rows, no two of which tie, rise
pub rises : (rows : List Row) → IsSorted by rows → IsAscending Apart rows → IsAscending Before rows
rises [] sorted apart = tt
rises (x ∷ []) sorted apart = (tt, tt)
rises (x ∷ y ∷ rows) sorted apart =
    let here : Before x y = less_of x y (sorted 0 x (omega arith) (omega arith)) apart.0.0 in
    let rest =
    rises (y ∷ rows)
    (λ k d low high. subst (λ n. is_lt (by (get_or (x ∷ y ∷ rows) n d) (get_or (y ∷ rows) k d)) ≡ false) (next k)
    (sorted (suc k) d (omega arith) (omega (arith, high)))) apart.1 in
    ((here, all_weaker (Before y) (Before x) (λ z later. by_total.trans x y z here later) rows rest.0), rest)
  where
    next : (k : ℕ) → suc k + 1 ≡ suc (k + 1)
    next k = omega arith

-- ---- two lists of the same rows that rise

same_head : (x y : Row) (xs ys : List Row) → IsAscending Before (x ∷ xs) → IsAscending Before (y ∷ ys) → Has (y ∷ ys) x
    → Has (x ∷ xs) y → x ≡ y
same_head x y xs ys up over (inl same) k = same
same_head x y xs ys up over (inr h) (inl same) = sym same
same_head x y xs ys up over (inr h) (inr k) =
    absurd (never_both x y (all_has (Before x) xs y up.0 k) (all_has (Before y) ys x over.0 h))

in_rest : (x y z : Row) (xs ys : List Row) → x ≡ y → IsAscending Before (x ∷ xs) → Has xs z → Has (y ∷ ys) z → Has ys z
in_rest x y z xs ys same up h (inl e) = absurd
    (never_itself x (subst (Before x) (e ∙ sym same) (all_has (Before x) xs z up.0 h)))
in_rest x y z xs ys same up h (inr k) = k

pub one_rising : (xs ys : List Row) → IsAscending Before xs → IsAscending Before ys → ((z : Row) → Has xs z → Has ys z)
    → ((z : Row) → Has ys z → Has xs z) → xs ≡ ys
one_rising [] [] up over to from = refl
one_rising [] (y ∷ ys) up over to from = absurd (from y (inl refl))
one_rising (x ∷ xs) [] up over to from = absurd (to x (inl refl))
one_rising (x ∷ xs) (y ∷ ys) up over to from =
    let same : x ≡ y = same_head x y xs ys up over (to x (inl refl)) (from y (inl refl)) in
    let rest : xs ≡ ys = one_rising xs ys up.1 over.1 (λ z h. in_rest x y z xs ys same up h (to z (inr h)))
    (λ z h. in_rest y x z ys xs (sym same) over h (from z (inr h))) in
    λ i. same i ∷ rest i

-- ---- the rows of a club's moves rise

int_less : (p q : ℕ) → p < q → int_cmp (pos p) (pos q) ≡ Less
int_less p q low = let less : ltb p q ≡ true = (Decides-ltb p q).1 low in rw less refl

pub value_less : (a b : Value) (p q : ℕ) → a ≡ Int (pos p) → b ≡ Int (pos q) → p < q → value_cmp a b ≡ Less
value_less a b p q one two low = (λ i. value_cmp (one i) (two i)) ∙ (value_cmp-Int (pos p) (pos q) ∙ int_less p q low)

pub value_same : (a b : Value) (p : ℕ) → a ≡ Int (pos p) → b ≡ Int (pos p) → value_cmp a b ≡ Equal
value_same a b p one two = (λ i. value_cmp (one i) (two i)) ∙ tied_itself value_cmp_total (Int (pos p))

pub before_ply : (a b : Row) (g p q : ℕ) → column a 0 ≡ Int (pos g) → column b 0 ≡ Int (pos g) → column a 1 ≡ Int (pos p)
    → column b 1 ≡ Int (pos q) → p < q → Before a b
before_ply a b g p q one two first second low =
    λ i. ordering_then (value_same (column a 0) (column b 0) g one two i)
    (ordering_then (value_less (column a 1) (column b 1) p q first second low i) Equal)

-- the row is of this game and of this ply or a later one
pub record IsFrom (id n : ℕ) (row : Row) : Type 0 where
  pub ply : ℕ
  pub later : n ≤ ply
  pub game_is : column row 0 ≡ Int (pos id)
  pub ply_is : column row 1 ≡ Int (pos ply)

module _ {P M E T : Type 0} (laws : GameRules P M E T) (terms : Terms) (id : ℕ) where
  plies_from : (n : ℕ) (game : Game M) (es : List (Entry M)) → n ≤ length game.entries + 1
      → AllByRecursion (IsFrom id n) (entry_rows laws terms id game es)
  plies_from n game [] low = tt
  plies_from n game (e ∷ es) low = (
    record { ply = length game.entries + 1; later = low; game_is = refl; ply_is = refl },
    plies_from n (with_entry game e) es (omega (arith, low, length-append game.entries (e ∷ []))),
  )

  pub entries_rise : (game : Game M) (es : List (Entry M)) → IsAscending Before (entry_rows laws terms id game es)
  entries_rise game [] = tt
  entries_rise game (e ∷ es) =
      let here = length game.entries + 1 in (
        all_weaker (IsFrom id (here + 1)) (Before (entry_row laws terms id game e))
            (λ row from. let later = from.later in
            before_ply (entry_row laws terms id game e) row id here from.ply refl from.game_is refl from.ply_is
            (omega (arith, later)))
            (entry_rows laws terms id (with_entry game e) es)
            (plies_from (here + 1) (with_entry game e) es (omega (arith, length-append game.entries (e ∷ [])))),
        entries_rise (with_entry game e) es,
      )

module _ (events : List Event) where
  abbrev rows_of : ℕ → ClubGame → List Row
  rows_of = rows_of_moves both_games events

  pub game_rise : (id : ℕ) (any : ClubGame) → IsAscending Before (rows_of id any)
  game_rise id (draughts g) = entries_rise both_games.draughts (terms_at (place events g.event)) id
      (record g { entries = [] }) g.entries
  game_rise id (shogi g) = entries_rise both_games.shogi (terms_at (place events g.event)) id
      (record g { entries = [] }) g.entries

-- ---- no two rows of a table have one key, where that is its first two columns

then_parts : (a b : Ordering) → ordering_then a (ordering_then b Equal) ≡ Equal → (a ≡ Equal) × (b ≡ Equal)
then_parts Less b e = cc
then_parts Greater b e = cc
then_parts Equal Less e = cc
then_parts Equal Greater e = cc
then_parts Equal Equal e = (refl, refl)

none_any : {A : Type 0} (test : A → Bool) (xs : List A) (x : A) → list_any test xs ≡ false → Has xs x → test x ≡ false
none_any test [] x none h = absurd h
none_any test (y ∷ ys) x none (inl same) = ap test same ∙ (or_parts (test y) (list_any test ys) none).0
none_any test (y ∷ ys) x none (inr h) = none_any test ys x (or_parts (test y) (list_any test ys) none).1 h

and_second : (a b : Bool) → a ≡ true → (a && b) ≡ false → b ≡ false
and_second true b one e = e
and_second false b one e = cc

no_null : (v : Value) → IsInt v → is_null v ≡ false
no_null v (n, is) = ap is_null is

same_of : (a b : Value) → IsInt a → IsInt b → value_cmp b a ≡ Equal → equal Binary a b ≡ true
same_of a b one two tie = equal_from a b (no_null a one) (no_null b two) (tied_back value_cmp_total b a tie)

-- rows with the same game and ply agree in them
agree_of : (a b : Row) → equal Binary (column a 1) (column b 1) ≡ true → equal Binary (column a 2) (column b 2) ≡ true
    → agree plain (1 ∷ 2 ∷ []) a (1 ∷ 2 ∷ []) b ≡ true
unfolding first_key
agree_of a b game ply = λ i. game i && (ply i && true)

-- rows that a key of their own tells apart: where each is the only one with its key, those with the same key have one
-- rowid
module _ (key : List ℕ) (rows : List Row) (apart : AreApart rows)
    (unique : (r : Row) → Has rows r → clashes plain key rows r ≡ false) where
  pub one_rowid : (r s : Row) → Has rows r → Has rows s → agree plain key s key r ≡ true
      → value_cmp (rowid r) (rowid s) ≡ Equal
  one_rowid r s h k agrees =
      let never = none_any (λ x. agree plain key x key r && differ (rowid x) (rowid r)) rows s (unique r h) k in
      let alike : differ (rowid s) (rowid r) ≡ false = and_second _ _ agrees never in
      let a = int_is (rowid s) (all_has (λ x. IsTrue (is_int (rowid x))) rows s apart.ints k) in
      let b = int_is (rowid r) (all_has (λ x. IsTrue (is_int (rowid x))) rows r apart.ints h) in
      let same = differ_ints _ _ (subst₂ (λ x y. differ x y ≡ false) a b alike) in
      let alike_ids : rowid r ≡ rowid s = b ∙ (ap (λ (n : ℤ). Int n) (sym same) ∙ sym a) in
      subst (λ v. value_cmp (rowid r) v ≡ Equal) alike_ids (tied_itself value_cmp_total (rowid r))

-- what follows of each two rows of a table follows along any of them
pub turned : {D Q : Row → Row → Type 0} → (stored : List Row)
    → ((r s : Row) → Has stored r → Has stored s → D r s → Q r s) → (rows : List Row)
    → ((r : Row) → Has rows r → Has stored r) → IsAscending D rows → IsAscending Q rows
turned stored pair [] sub up = tt
turned {D} {Q} stored pair (x ∷ rows) sub up = (
  all_from (Q x) rows (λ s h. pair x s (sub x (inl refl)) (sub s (inr h)) (all_has (D x) rows s up.0 h)),
  turned stored pair rows (λ r h. sub r (inr h)) up.1,
)

-- a table whose key is its first two columns, which are whole numbers
module _ (table : Definition)
    (shown : (r s : Row) → by (cells table r) (cells table s) ≡ ordering_then (value_cmp (column r 1) (column s 1))
    (ordering_then (value_cmp (column r 2) (column s 2)) Equal)) (stored : List Row)
    (no_clash : (r : Row) → Has stored r → clashes plain (1 ∷ 2 ∷ []) stored r ≡ false) (apart : AreApart stored)
  where
    keys_apart : (r s : Row) → Has stored r → Has stored s → IsInt (column r 1) × IsInt (column r 2)
        → IsInt (column s 1) × IsInt (column s 2) → value_cmp (rowid r) (rowid s) ≢ Equal
        → Apart (cells table r) (cells table s)
    keys_apart r s h k one two other tie =
        let both = then_parts (value_cmp (column r 1) (column s 1)) (value_cmp (column r 2) (column s 2))
        (sym (shown r s) ∙ tie) in
        let game : equal Binary (column s 1) (column r 1) ≡ true = same_of (column s 1) (column r 1) two.0 one.0 both.0 in
        let ply : equal Binary (column s 2) (column r 2) ≡ true = same_of (column s 2) (column r 2) two.1 one.1 both.1 in
        other (one_rowid (1 ∷ 2 ∷ []) stored apart no_clash r s h k (agree_of s r game ply))

    -- no two rows that are shown have one key
    pub stored_apart : ((r : Row) → Has stored r → IsInt (column r 1) × IsInt (column r 2))
        → IsAscending Apart (map (cells table) stored)
    stored_apart ints = ascending-map Apart (cells table) stored
        (turned stored (λ r s h k. keys_apart r s h k (ints r h) (ints s k)) stored (λ r h. h) apart.apart)

    -- no two rows that are shown and pass a test have one key
    pub chosen_apart : (test : Row → Bool)
        → ((r : Row) → Has stored r → test (cells table r) ≡ true → IsInt (column r 1) × IsInt (column r 2))
        → IsAscending Apart (filter test (map (cells table) stored))
    chosen_apart test ints =
        let passes = λ (r : Row). test (cells table r) in
        subst (IsAscending Apart) (sym (filter-map test (cells table) stored))
        (ascending-map Apart (cells table) (filter passes stored)
        (turned (filter passes stored)
        (λ r s h k other.
        let (one, is) = has_filtered passes stored r h in
        let (two, also) = has_filtered passes stored s k in
        keys_apart r s one two (ints r one is) (ints s two also) other) (filter passes stored) (λ r h. h)
        (ascending-filter (λ r s. value_cmp (rowid r) (rowid s) ≢ Equal) passes stored apart.apart)))

-- ---- the rows of challenges, of positions and of scores that were read are those of the club, each once

-- ---- rows that differ, each at one place

abbrev pub Differ : Row → Row → Type 0
Differ a b = a ≢ b

pub differ_back : (a b : Row) → Differ a b → Differ b a
differ_back a b apart is = apart (sym is)

-- where no two of the rows are the same, each is at one place
pub at_once : (rows : List Row) → IsAscending Differ rows → (i j : ℕ) (row : Row) → slice_get rows i ≡ Some row
    → slice_get rows j ≡ Some row → i ≡ j
at_once [] up i j row at also = cc
at_once (x ∷ rows) up zero zero row at also = refl
at_once (x ∷ rows) up zero (suc j) row at also = let is : x ≡ row = cc in
    absurd (all_has (Differ x) rows row up.0 (has_got rows j row also) is)
at_once (x ∷ rows) up (suc i) zero row at also = let is : x ≡ row = cc in
    absurd (all_has (Differ x) rows row up.0 (has_got rows i row at) is)
at_once (x ∷ rows) up (suc i) (suc j) row at also = ap suc (at_once rows up.1 i j row at also)

-- ---- the rows of a table that a key tells apart

-- in these columns the rows have the same values, none of them NULL
abbrev AreAlike : List ℕ → Row → Row → Type 0
AreAlike key a b = AllByRecursion (λ p. (is_null (column a p) ≡ false) × (column a p ≡ column b p)) key

value_alike : (a b : Value) → is_null a ≡ false → a ≡ b → equal Binary a b ≡ true
value_alike a b none is =
    equal_from a b none (ap is_null (sym is) ∙ none)
    (subst (λ v. value_cmp a v ≡ Equal) is (tied_itself value_cmp_total a))

alike_agree : (key : List ℕ) (a b : Row) → AreAlike key a b → agree plain key a key b ≡ true
unfolding first_key
alike_agree [] a b alike = refl
alike_agree (p ∷ key) a b alike =
    λ i. value_alike (column a p) (column b p) alike.0.0 alike.0.1 i && alike_agree key a b alike.1 i

-- The table has no NULL in its key, which its cells show, and no two rows with one key.
pub record HasKey (table : Definition) (key : List ℕ) (rows : List Row) : Type 0 where
  pub filled : (r : Row) → Has rows r → AllByRecursion (λ p. is_null (column r p) ≡ false) key
  pub shown : (r s : Row) → cells table r ≡ cells table s → AllByRecursion (λ p. column r p ≡ column s p) key
  pub unique : (r : Row) → Has rows r → clashes plain key rows r ≡ false

-- rows with rowids of their own are shown differently
cells_differ : (table : Definition) (key : List ℕ) (rows : List Row) → AreApart rows → HasKey table key rows
    → (r s : Row) → Has rows r → Has rows s → value_cmp (rowid r) (rowid s) ≢ Equal
    → Differ (cells table r) (cells table s)
cells_differ table key rows apart keyed r s h k other is =
    let alike : AreAlike key s r = all_both _ _ _ (λ p none same. (none, same)) key (keyed.filled s k)
    (keyed.shown s r (sym is)) in
    other (one_rowid key rows apart keyed.unique r s h k (alike_agree key s r alike))

-- no two rows that are shown are the same
pub stored_differ : (table : Definition) (key : List ℕ) (stored : List Row) → AreApart stored → HasKey table key stored
    → IsAscending Differ (map (cells table) stored)
stored_differ table key stored apart keyed =
    ascending-map Differ (cells table) stored
    (turned stored (cells_differ table key stored apart keyed) stored (λ r h. h) apart.apart)

-- what is shown of the table is shown once
shown_once : (table : Definition) (key : List ℕ) (stored rows : List Row) → AreApart stored → HasKey table key stored
    → IsPermutation (map (cells table) stored) rows → IsAscending Differ rows
shown_once table key stored rows apart keyed once =
    pairs_turned Differ differ_back (map (cells table) stored) rows once
    (stored_differ table key stored apart keyed)

-- Rows that were read of a table are those that it has, each once, in whatever order.
pub each_once : (table : Definition) (width : ℕ) (key : List ℕ) (rows made : List Row) (old new : State)
    → HasKey table key (club_trees old.now table.tree) → Keeps table (club_trees old.now) made
    → IsReadAs table width rows old new
    → AreEachOnce rows made
each_once table width key rows made old new keyed keeps read = record {
  same =
      record {
        there = moved table (club_trees old.now) rows made read.keeps keeps;
        back = moved table (club_trees old.now) made rows keeps read.keeps;
      };
  once = at_once rows (shown_once table key (club_trees old.now table.tree) rows read.apart keyed read.once);
}

-- ---- challenges, positions and scores

int_there : (v : Value) → IsInt v → is_null v ≡ false
int_there v (n, is) = ap is_null is

text_there : (v : Value) → IsText v → is_null v ≡ false
text_there v (t, is, fits) = ap is_null is

pub seen_key : (trees : Trees) → AreUnique trees → ((r : Row) → Has (trees 12) r → IsSeen (cells (seen 12) r))
    → HasKey (seen 12) (1 ∷ 2 ∷ []) (trees 12)
seen_key trees unique typed = record {
  filled = λ r h. let is = typed r h in (int_there _ is.game, (text_there _ is.position, tt));
  shown = λ r s is. (ap (λ c. column c 0) is, (ap (λ c. column c 1) is, tt));
  unique = unique.seen;
}

pub challenge_key : (trees : Trees) → AreUnique trees
    → ((r : Row) → Has (trees 6) r → IsChallenge (cells (challenges 6) r))
    → HasKey (challenges 6) (1 ∷ 2 ∷ []) (trees 6)
challenge_key trees unique typed = record {
  filled = λ r h. let is = typed r h in (int_there _ is.member, (int_there _ is.number, tt));
  shown = λ r s is. (ap (λ c. column c 0) is, (ap (λ c. column c 1) is, tt));
  unique = unique.challenges;
}

pub score_key : (trees : Trees) → AreUnique trees → ((r : Row) → Has (trees 14) r → IsScore (cells (scores 14) r))
    → HasKey (scores 14) (1 ∷ 2 ∷ 3 ∷ []) (trees 14)
score_key trees unique typed = record {
  filled = λ r h. let is = typed r h in (int_there _ is.event, (int_there _ is.member, (int_there _ is.opponent, tt)));
  shown = λ r s is. (ap (λ c. column c 0) is, (ap (λ c. column c 1) is, (ap (λ c. column c 2) is, tt)));
  unique = unique.scores;
}

-- ---- the rows of one game that were read of the tables of a club are the game's

-- a row of a position begins with its game's number
pub seen_had : (id : ℕ) (g : ClubGame) (z : Row) → Has (rows_of_seen both_games id g) z → column z 0 ≡ number id
seen_had id (draughts g) z h = seen-id id (texts_of both_games.draughts g) z h
seen_had id (shogi g) z h = seen-id id (texts_of both_games.shogi g) z h

-- ---- what is stored, and what is shown

pub shown_same : (table : Definition) (db : Trees) (rows : List Row) → Keeps table db rows
    → HaveSame (map (cells table) (db table.tree)) rows
shown_same table db rows keeps = record {
  there = λ z h. let (r, stored, is) = has_mapped (cells table) (db table.tree) z h in
      subst (Has rows) (sym is) (keeps.only r stored);
  back = λ z h. let (r, stored, is) = keeps.stored z h in
      subst (Has (map (cells table) (db table.tree))) is (has_map (cells table) (db table.tree) r stored);
}

pub turned_same : (xs ys : List Row) → IsPermutation xs ys → HaveSame xs ys
turned_same xs ys is =
    record { there = λ z h. has_turned xs ys z is h; back = λ z h. has_turned ys xs z (IsPermutation-sym xs ys is) h }

pub same_back : (xs ys : List Row) → HaveSame xs ys → HaveSame ys xs
same_back xs ys same = record { there = same.back; back = same.there }

-- ---- rows with one number, by the rest of their key

same_order : (n : ℤ) (a b : Row) → column a 0 ≡ Int n → column b 0 ≡ Int n → by a b ≡ by_others 2 a b
same_order n a b one two =
    let tie : value_cmp (column a 0) (column b 0) ≡ Equal = (λ i. value_cmp (one i) (two i))
    ∙ tied_itself value_cmp_total (Int n) in
    ap (λ o. ordering_then o (ordering_then (value_cmp (column a 1) (column b 1)) Equal)) tie

pub by_sorted : (rows : List Row) (n : ℤ) → ((x : Row) → Has rows x → column x 0 ≡ Int n) → IsSorted (by_others 2) rows
    → IsSorted by rows
by_sorted rows n all sorted k d low high =
    let later : k + 1 < length rows = omega arith in
    let here : k < length rows = omega arith in
    ap is_lt
    (same_order n (get_or rows (k + 1) d) (get_or rows k d)
    (all (get_or rows (k + 1) d) (has_index rows (k + 1) d later))
    (all (get_or rows k d) (has_index rows k d here))) ∙ sorted k d low high

-- rows of positions with the number of a game are the game's, each once, where the table is that of the club
pub seen_of_game : (s : ClubState) → IsClub s → (trees : Trees) → AreUnique trees → AreApart (trees 12)
    → HaveSame (seen_in trees) (tables_of both_games s 12) → (n : ℕ) (g : ClubGame) → slice_get s.games n ≡ Some g
    → (rows : List Row) (old new : State) → club_trees old.now ≡ trees
    → AreReadOf (seen 12) 2 (pos (1 + n)) rows old new
    → AreEachOnce rows (rows_of_seen both_games (1 + n) g)
seen_of_game s club trees unique apart same_all n g at rows old new trees_are read =
    let made = rows_of_seen both_games (1 + n) g in
    let shown = seen_in trees in
    let once : IsPermutation (beginning_with (pos (1 + n)) shown) rows =
    subst (λ (t : Trees). IsPermutation (beginning_with (pos (1 + n)) (seen_in t)) rows) trees_are read.once in
    let group = table_group (rows_of_seen both_games) (λ id x z h. seen_had id x z h) shown s.games same_all n g at in
    let keyed =
    seen_key trees unique
    (λ r h. all_has IsSeen (tables_of both_games s 12) (cells (seen 12) r) (seen-typed s club)
    (same_all.there (cells (seen 12) r) (has_map (cells (seen 12)) (trees 12) r h))) in
    record {
      same = same_then rows (beginning_with (pos (1 + n)) shown) made (same_back _ _ (turned_same _ rows once)) group;
      once = at_once rows (pairs_turned Differ differ_back (beginning_with (pos (1 + n)) shown) rows once
          (ascending-filter Differ (λ x. same_key (0 ∷ []) x (Int (pos (1 + n)) ∷ [])) shown
          (stored_differ (seen 12) (1 ∷ 2 ∷ []) (trees 12) apart keyed)));
    }

-- ---- rows by the ids of games: those that begin with the id of none

-- a row begins with the number that it has
is_begun : (x : Row) (n : ℤ) → column x 0 ≡ Int n → begins n x ≡ true
unfolding first_key
is_begun x n is =
    let alike : equal Binary (column x 0) (Int n) ≡ true =
    subst (λ (v : Value). equal Binary v (Int n) ≡ true) (sym is)
    (equal_from (Int n) (Int n) refl refl (tied_itself value_cmp_total (Int n))) in
    λ i. alike i && true

-- a row that begins with a number has it
pub begun_is : (x : Row) (n : ℤ) → IsInt (column x 0) → same_key (0 ∷ []) x (Int n ∷ []) ≡ true → column x 0 ≡ Int n
unfolding first_key
begun_is x n (k, is) p =
    let one : value_cmp (column x 0) (Int n) ≡ Equal = equal_cmp (column x 0) (Int n) (and_parts _ _ p).0 in
    let tie : value_cmp (Int k) (Int n) ≡ Equal = subst (λ (v : Value). value_cmp v (Int n) ≡ Equal) is one in
    is ∙ ap (λ (m : ℤ). Int m) (equal_ints k n (equal_from (Int k) (Int n) refl refl tie))

got_id : (games : List GameTableRow) (place : ℕ) (game : GameTableRow) → slice_get games place ≡ Some game
    → get_or (map (λ g. g.id) games) place (pos 0) ≡ game.id
got_id [] place game at = cc
got_id (g ∷ games) zero game at = let same : g ≡ game = cc in ap (λ (x : GameTableRow). x.id) same
got_id (g ∷ games) (suc n) game at = got_id games n game at

-- the id of the game at a place
pub id_of_game : (games : Rows) (place : ℕ) (game : GameTableRow) → slice_get games.games.items place ≡ Some game
    → id_at games place ≡ game.id
id_of_game games place game at = got_id games.games.items place game at

-- ids of rows that were read are apart, each two
other_ids : (games : List GameTableRow) (n : ℤ)
    → AllByRecursion (λ b. value_cmp (Int n) (column b 0) ≢ Equal) (map game_cells games) → (j : ℕ) → j < length games
    → n ≢ get_or (map (λ g. g.id) games) j (pos 0)
other_ids [] n all j low is = absurd (omega (arith, low))
other_ids (h ∷ games) n all zero low is =
    all.0 (subst (λ (m : ℤ). value_cmp (Int n) (Int m) ≡ Equal) is (tied_itself value_cmp_total (Int n)))
other_ids (h ∷ games) n all (suc j) low is = other_ids games n all.1 j (omega (arith, low)) is

each_apart : (games : List GameTableRow)
    → IsAscending (λ a b. value_cmp (column a 0) (column b 0) ≢ Equal) (map game_cells games) → (i j : ℕ) → i < j
    → j < length games → get_or (map (λ g. g.id) games) i (pos 0) ≢ get_or (map (λ g. g.id) games) j (pos 0)
each_apart [] up i j less low is = absurd (omega (arith, low))
each_apart (g ∷ games) up i zero less low is = absurd (omega (arith, less))
each_apart (g ∷ games) up zero (suc j) less low is = other_ids games g.id up.0 j (omega (arith, low)) is
each_apart (g ∷ games) up (suc i) (suc j) less low is =
    each_apart games up.1 i j (omega (arith, less)) (omega (arith, low)) is

-- no two games have one id
abbrev pub AreOwn : Rows → Type 0
AreOwn games = (i j : ℕ) → i < j → j < length games.games.items → id_at games i ≢ id_at games j

pub ids_apart : (games : Rows) → HaveIds games → AreOwn games
ids_apart games ids = each_apart games.games.items ids.games.apart

-- with one game more, so many fewer are left
pub beyond_step : (games : Rows) → AreOwn games → (k : ℕ) (rows : List Row) → k < length games.games.items
    → length (beyond games k rows) ≡ length (beginning_with (id_at games k) rows) + length (beyond games (suc k) rows)
beyond_step games apart = without_step (id_at games) (length games.games.items) apart

-- where each of the rows begins with the id of a game, none is left
pub none_beyond : (games : Rows) (rows : List Row) → AreOwned games rows
    → length (beyond games (length games.games.items) rows) ≡ 0
none_beyond games rows owned = elim (cases_zero (length (beyond games (length games.games.items) rows))) [
  | inl none ↦ none
  | inr some ↦
      let (x, left) = one_in (beyond games (length games.games.items) rows) some in
      let (there, none) = left_of (id_at games) (length games.games.items) rows x left in
      let (place, game, at, is) = owned x there in
      let within = slice_get_within games.games.items place game at in
      let begun = is_begun x (id_at games place) (is ∙ ap (λ (n : ℤ). Int n) (sym (id_of_game games place game at))) in
      absurd (true≢false (sym begun ∙ none place within))
]

-- where none is left, each begins with the id of a game
begun_by : (rows : Rows) (shown : List Row) → length (beyond rows (length rows.games.items) shown) ≡ 0 → (x : Row)
    → Has shown x → (n : ℕ) × (game : GameTableRow) × (slice_get rows.games.items n ≡ Some game)
    × (begins game.id x ≡ true)
begun_by rows shown none x h = elim (found_before (id_at rows) (length rows.games.items) shown x h) [
  | inl left ↦ absurd (none_in (beyond rows (length rows.games.items) shown) x none left)
  | inr (i, low, is) ↦
      let (game, at) = there_at rows.games.items i low in
      (i, game, at, subst (λ (n : ℤ). begins n x ≡ true) (id_of_game rows i game at) is)
]

-- where none is left and those of each game are right, all are
pub moves_gathered : (rows : Rows) (moves rulings : List Row)
    → length (beyond rows (length rows.games.items) moves) ≡ 0
    → ((n : ℕ) (game : GameTableRow) → n < length rows.games.items → slice_get rows.games.items n ≡ Some game
    → HasMovesOf rows moves rulings game) → HaveMovesOf rows moves rulings
moves_gathered rows moves rulings none each = record {
  typed = all_from IsMove moves (λ x h.
      let (n, game, at, begun) = begun_by rows moves none x h in
      (each n game (slice_get_within rows.games.items n game at) at).typed x
      (has_kept (λ y. same_key (0 ∷ []) y (Int game.id ∷ [])) moves x h begun));
  owned = λ x h.
      let (n, game, at, begun) = begun_by rows moves none x h in
      let its = each n game (slice_get_within rows.games.items n game at) at in
      let typed = its.typed x (has_kept (λ y. same_key (0 ∷ []) y (Int game.id ∷ [])) moves x h begun) in
      (n, game, at, begun_is x game.id typed.game begun);
  played = λ n game at. (each n game (slice_get_within rows.games.items n game at) at).played;
}

pub rulings_gathered : (rows : Rows) (moves rulings : List Row)
    → length (beyond rows (length rows.games.items) rulings) ≡ 0
    → ((n : ℕ) (game : GameTableRow) → n < length rows.games.items → slice_get rows.games.items n ≡ Some game
    → HasRulingsOf rows moves rulings game) → HaveRulingsOf rows moves rulings
rulings_gathered rows moves rulings none each = record {
  typed = all_from IsRuling rulings (λ x h.
      let (n, game, at, begun) = begun_by rows rulings none x h in
      (each n game (slice_get_within rows.games.items n game at) at).typed x
      (has_kept (λ y. same_key (0 ∷ []) y (Int game.id ∷ [])) rulings x h begun));
  owned = λ x h.
      let (n, game, at, begun) = begun_by rows rulings none x h in
      let its = each n game (slice_get_within rows.games.items n game at) at in
      let typed = its.typed x (has_kept (λ y. same_key (0 ∷ []) y (Int game.id ∷ [])) rulings x h begun) in
      (n, game, at, begun_is x game.id typed.game begun);
  ruled = λ n game at. (each n game (slice_get_within rows.games.items n game at) at).ruled;
}

-- the rows of positions of a club with these games each begin with the id of one
pub seen_owned : (rows : Rows) (moves rulings positions : List Row) → HaveSeenOf rows moves rulings positions
    → AreOwned rows positions
seen_owned rows moves rulings positions have x h =
    let s = have.games.state in
    let (n, g, at, has) = gathered_had (rows_of_seen both_games) 1 s.games x (have.same.there x h) in
    let (game, there, is) = numbered-back game_cells (row_of_game both_games s.events) 1 rows.games.items s.games
    have.games.games n g at in
    (n, game, there, seen_had (1 + n) g x has ∙ ap (λ (m : ℤ). Int m) (sym (id-told s (1 + n) game g is)))
