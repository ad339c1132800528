-- The terms of a query over one table are the same wherever the table stands, and in whatever schema.
use Rattle.std.proofs.Common.{◌≡◌, ℕ, suc, Bool, true, false, List, [], ◌∷◌, ◌++◌, Option, Some, None, refl, sym, ◌∙◌}
use Rattle.std.proofs.Common.{map, zero, ◌==◌, ◌&&◌, ◌||◌, Ok, ap, slice_get, option_map, is_some, true≢false}
use Rattle.std.proofs.Common.{if◌then◌else◌, option_and_then, unwrap_or, nat_lt, ◌^◌, codes}
use Rattle.std.proofs.lemmas.Bool.{and_parts}
use Rattle.std.specs.List.{list_all}
use Rattle.sqlite_ast.specs.declared.Expr.{Expr, out-Expr}
use Rattle.sqlite_ast.specs.declared.Expr.TheVariants as written
use Rattle.sqlite_ast.specs.declared.Shown.{Shown, out-Shown}
use Rattle.sqlite_ast.specs.declared.Shown.TheVariants as showing
use Rattle.sqlite_ast.specs.declared.Sort.{Sort, roll-Sort}
use Rattle.sqlite_ast.specs.declared.Binary.TheVariants as binary
use Rattle.sqlite_sql.specs.Term.{Term, lit, col, op1, op2, case, reads_below}
use Rattle.sqlite_sql.specs.declared.ops.BinaryOp.TheVariants.{Compare}
use Rattle.sqlite_sql.specs.declared.ops.CompareOp.TheVariants.{Eq}
use Rattle.sqlite_value.specs.declared.keys.Collation.{Collation}
use Rattle.sqlite_value.specs.declared.keys.Key.{Key}
use Rattle.store_tables.specs.Sql.{Schema, Table}
use Rattle.sqlite_resolve.specs.declared.scope.Output.{Output}
use Rattle.sqlite_resolve.specs.declared.state.State.{State}
use Rattle.sqlite_resolve.specs.Lowering.{and_then, spend, begin, finish, pure, fail, lift, last, chosen, ◌>>◌, ◌>>=◌}
use Rattle.sqlite_resolve.specs.Lowering.{Checked, Lowering, or_else, carry, nothing}
use Rattle.sqlite_resolve.specs.declared.error.CompileError.TheVariants.{Unsupported, NoSuchColumn}
use Rattle.sqlite_resolve.specs.Scope.{Context, Name, shown_again, is_rowid, is_among, column_in, rowid_in, hit, only}
use Rattle.sqlite_resolve.specs.Scope.{in_level, find, find_from, found_or, column_at, term_of, column, at_most_one}
use Rattle.sqlite_resolve.specs.Scope.{alias_of, declared}
use Rattle.sqlite_resolve.specs.Terms.{conjuncts}
use Rattle.sqlite_resolve.specs.Body.{heading, is_column, outputs_from, shown, tests, heading_at, found_name}
use Rattle.sqlite_resolve.specs.Body.{declared as declared_name}
use Rattle.sqlite_resolve.specs.Compare.{affinity_of, compared, converted, at_place, of_column, of_declared}
use Rattle.sqlite_resolve.specs.Compare.{or_else as place_or}
use Rattle.sqlite_resolve.specs.Expr.{lower, lower_to, node, node_at, opened, operation, both, combine, wanted_truth}
use Rattle.sqlite_resolve.specs.Expr.{tests_truth, tests_alias, passes}
use Rattle.sqlite_resolve.specs.Order.{aliased_or, alias_in, collation_of, is_numeral, key, peeled, place_in, placed}
use Rattle.sqlite_resolve.specs.Order.{sort, sorts_from}
use Rattle.sqlite_schema.specs.Names.{column_named, place_of}
use Rattle.sqlite_resolve.specs.declared.compare.Affinity.{Affinity}
use Rattle.sqlite_resolve.specs.declared.compare.Affinity.TheVariants as affinity
use Rattle.sqlite_resolve.specs.declared.scope.Bound.{Bound}
use Rattle.sqlite_resolve.specs.declared.scope.Found.{Found}
use Rattle.sqlite_resolve.specs.declared.scope.Found.TheVariants.{Column, Rowid, Alias}
use Rattle.sqlite_resolve.specs.declared.scope.Level.{Level}
use Rattle.sqlite_resolve.specs.declared.state.Carried.{Carried}

-- ---- one table of a query

-- the table at a place of the schema, as FROM has it
abbrev pub bound_at : Name → ℕ → Bound
bound_at name place = record { name = name; table = place; slot = 1; shared = [] }

abbrev pub level_at : Name → ℕ → List Output → Level
level_at name place shown = record { tables = bound_at name place ∷ []; shown = shown }

abbrev pub context_at : Schema → Name → ℕ → List Output → Bool → Context
context_at s name place shown may_aggregate = record {
  schema = s;
  levels = level_at name place shown ∷ [];
  may_aggregate = may_aggregate;
  may_alias = true;
}

-- The table stands at this place of the schema, and is none that a statement computes.
pub record StandsAt (s : Schema) (place : ℕ) (table : Table) : Type 0 where
  pub at : slice_get s.tables place ≡ Some table
  pub small : nat_lt table.tree (2 ^ 31) ≡ true

-- a column of the table, or its rowid
abbrev pub is_known : Table → Name → Bool
is_known table name = is_some (column_named table name) || is_rowid name

abbrev pub cell_in : Option Table → ℕ → Checked (Term × Carried)
cell_in found j =
    or_else (option_and_then (λ t. option_map (λ c. (col 1 (place_of t j), declared t j c)) (slice_get t.columns j))
    found)
    NoSuchColumn

-- the column at a place of the table, or else its rowid
abbrev pub column_by : Table → Option ℕ → Lowering Term
column_by table (Some j) = lift (cell_in (Some table) j) >>= (λ found. carry found.1 >> pure found.0)
column_by table None = carry nothing >> pure (col 1 0)

abbrev pub name_in : Option Table → (Table → Option ℕ) → Option Name
name_in found at =
    option_and_then (λ t. option_and_then (λ k. option_map (λ c. c.name) (slice_get t.columns k)) (at t)) found

abbrev pub heading_by : Table → Name → Option ℕ → Name
heading_by table text (Some j) = unwrap_or (name_in (Some table) (λ t. Some j)) text
heading_by table text None = unwrap_or (name_in (Some table) (λ t. t.key)) (codes "rowid")

module _ (s : Schema) (place : ℕ) (table : Table) (is : StandsAt s place table) (called : Name) (shown : List Output)
    (may_aggregate : Bool) where
  abbrev pub here : Context
  here = context_at s called place shown may_aggregate

  abbrev pub bound : Bound
  bound = bound_at called place

  abbrev found_by : Option ℕ → Found
  found_by (Some j) = Column 1 place j
  found_by None = Rowid 1 place

  module _ (name : Name) (known : is_known table name ≡ true) where
    hit_column : hit s None name false bound ≡ option_map (Column 1 place) (column_named table name)
    unfolding hit column_in is_among
    hit_column = ap (λ o. option_map (Column 1 place) (option_and_then (λ t. column_named t name) o)) is.at

    hit_rowid : hit s None name true bound ≡ Some (Rowid 1 place)
    unfolding hit rowid_in is_among
    hit_rowid =
        ap (option_and_then (λ t. if nat_lt t.tree (2 ^ 31) then Some (Rowid 1 place) else None)) is.at
        ∙ (λ i. if is.small i then Some (Rowid 1 place) else None)

    level_by : (o : Option ℕ) (by_rowid : Bool) → (is_some o || by_rowid) ≡ true
        → and_then (and_then (at_most_one None (option_map (Column 1 place) o)) (λ f. Ok f)) (λ column.
        if is_some column then Ok column else
        and_then (if by_rowid then Ok (Some (Rowid 1 place)) else Ok None) (λ rowid.
        if is_some rowid || false then Ok rowid else Ok (option_map (Alias 0) (alias_of name shown))))
        ≡ Ok (Some (found_by o))
    level_by (Some j) by_rowid h = refl
    level_by None true h = refl
    level_by None false h = absurd (true≢false (sym h))

    level_is : in_level s None name 0 (level_at called place shown) ≡ Ok (Some (found_by (column_named table name)))
    unfolding in_level only
    level_is =
        (λ i.
        and_then (and_then (at_most_one None (hit_column i)) (λ f. Ok f)) (λ column.
        if is_some column then Ok column else
        and_then (if is_rowid name then and_then (at_most_one None (hit_rowid i)) (λ f. Ok f) else Ok None) (λ rowid.
        if is_some rowid || false then Ok rowid else Ok (option_map (Alias 0) (alias_of name shown)))))
        ∙ level_by (column_named table name) (is_rowid name) known

    find_is : find here None name ≡ Ok (found_by (column_named table name))
    unfolding find
    find_is i = and_then (level_is i) (found_or (find_from s None name 1 []))

    term_is : (o : Option ℕ) (st : State) → term_of here (found_by o) st ≡ column_by table o st
    unfolding term_of column_at
    term_is (Some j) st i = (lift (cell_in (is.at i) j) >>= (λ found. carry found.1 >> pure found.0)) st
    term_is None st i = column_by table None st

    column_is : (st : State) → column here None name st ≡ column_by table (column_named table name) st
    unfolding column
    column_is st = (λ i. (lift (find_is i) >>= term_of here) st) ∙ term_is (column_named table name) st

    name_is : (text : Name) (o : Option ℕ) → found_name s text (Ok (found_by o)) ≡ heading_by table text o
    unfolding declared_name
    name_is text (Some j) = λ i. unwrap_or (name_in (is.at i) (λ t. Some j)) text
    name_is text None =
        (λ i. unwrap_or (declared_name s place (option_and_then (λ t. t.key) (is.at i))) (codes "rowid"))
        ∙ (λ i. unwrap_or (name_in (is.at i) (λ t. table.key)) (codes "rowid"))

    heading_is : (text : Name)
        → heading here (written.Column None name) text ≡ heading_by table text (column_named table name)
    unfolding heading
    heading_is text =
        (λ i. heading_at here text (written.outs-Column None name i)) ∙ (λ i. found_name s text (find_is i))
        ∙ name_is text (column_named table name)

    opens : (depth : ℕ) (st : State)
        → opened (lower_to depth) here (written.Column None name) st ≡ column_by table (column_named table name) st
    unfolding opened
    opens depth st = (λ i. node_at (lower_to depth) here (written.outs-Column None name i) st) ∙ column_is st

  -- ---- the affinity of a term

  abbrev pub affinity_in : Option Table → ℕ → Affinity
  affinity_in found zero = affinity.Numeric
  affinity_in found (suc at) =
      unwrap_or (option_map of_declared (option_and_then (λ t. slice_get t.columns at) found)) affinity.None

  place_is : (at : ℕ) → at_place s place at ≡ affinity_in (Some table) at
  place_is zero = refl
  place_is (suc at) =
      λ i. unwrap_or (option_map of_declared (option_and_then (λ t. slice_get t.columns at) (is.at i))) affinity.None

  abbrev pub of_slot : Bool → Bool → ℕ → Affinity
  of_slot is_first is_second at =
      if is_first then affinity.None else (if is_second then affinity_in (Some table) at else affinity.None)

  abbrev found_slot : Bool → Option ℕ
  found_slot is_second = place_or (option_map (λ b. b.table) (if is_second then Some bound else None)) None

  slot_is : (is_first is_second : Bool) (at : ℕ)
      → (if is_first then affinity.None else
      unwrap_or (option_map (λ p. at_place s p at) (found_slot is_second)) affinity.None)
      ≡ of_slot is_first is_second at
  slot_is true is_second at = refl
  slot_is false true at = place_is at
  slot_is false false at = refl

  pub of_column_is : (slot at : ℕ) → of_column here slot at ≡ of_slot (slot == 0 && at == 0) (1 == slot) at
  unfolding of_column
  of_column_is slot at = slot_is (slot == 0 && at == 0) (1 == slot) at

abbrev pub with_tree : Table → ℕ → Table
with_tree table tree = record table { tree = tree }

-- ---- the texts of terms

abbrev pub column_written : Name → Expr
column_written name = written.Column None name

abbrev pub shown_written : Name → Shown
shown_written name = showing.One (column_written name) None name

abbrev pub sort_written : Bool → Name → Sort
sort_written falls name = roll-Sort (record { key = column_written name; descending = falls; nulls_first = None })

-- a column is as a parameter
abbrev equal_written : Name → ℕ → Expr
equal_written name n = written.Binary binary.Eq (column_written name) (written.Parameter n)

-- these columns, of which there are at most three, are as the parameters from the first on
abbrev pub filter_written : List Name → Option Expr
filter_written [] = None
filter_written (a ∷ []) = Some (equal_written a 1)
filter_written (a ∷ b ∷ []) = Some (written.Binary binary.And (equal_written a 1) (equal_written b 2))
filter_written (a ∷ b ∷ c ∷ more) =
    Some (written.Binary binary.And (written.Binary binary.And (equal_written a 1) (equal_written b 2))
    (equal_written c 3))

-- ---- a table that stands alone, with a tree of its own

abbrev pub alone : Table → Schema
alone table = record { tables = with_tree table 0 ∷ []; indexes = []; views = [] }

stands_alone : (table : Table) → StandsAt (alone table) 0 (with_tree table 0)
stands_alone table = record { at = refl; small = refl }

-- what is the same inside is the same as a whole
pub lowered_same : (c d : Context) (depth : ℕ) (e : Expr)
    → ((st : State) → opened (lower_to depth) c e st ≡ opened (lower_to depth) d e st) → (st : State)
    → lower_to (suc depth) c e st ≡ lower_to (suc depth) d e st
unfolding lower_to node
lowered_same c d depth e same st i =
    and_then (spend 1 st) (λ a. and_then (begin a.1)
    (λ b. and_then (same b.1 i) (λ t. (finish b.0 (passes e) >> pure t.0) t.1)))

-- ---- the table in a schema, and alone

module _ (s : Schema) (p : ℕ) (table : Table) (one : StandsAt s p table) (called : Name) (listed : List Output)
    (may_aggregate : Bool) where
  abbrev pub first_context : Context
  first_context = context_at s called p listed may_aggregate

  abbrev pub second_context : Context
  second_context = context_at (alone table) called 0 listed may_aggregate

  abbrev pub IsSame : ℕ → Expr → Type 0
  IsSame depth e = (st : State) → lower_to depth first_context e st ≡ lower_to depth second_context e st

  column_same : (depth : ℕ) (name : Name) → is_known table name ≡ true → IsSame (suc depth) (column_written name)
  column_same depth name known = lowered_same first_context second_context depth (column_written name) (λ st.
      opens s p table one called listed may_aggregate name known depth st
      ∙ sym (opens (alone table) 0 (with_tree table 0) (stands_alone table) called listed may_aggregate name known
      depth st))

  heading_same : (name text : Name) → is_known table name ≡ true
      → heading first_context (column_written name) text ≡ heading second_context (column_written name) text
  heading_same name text known =
      heading_is s p table one called listed may_aggregate name known text
      ∙ sym (heading_is (alone table) 0 (with_tree table 0) (stands_alone table) called listed may_aggregate name known
      text)

  affinity_same : (x : Term) → affinity_of first_context x ≡ affinity_of second_context x
  unfolding affinity_of
  affinity_same (lit v) = refl
  affinity_same (col slot at) =
      of_column_is s p table one called listed may_aggregate slot at
      ∙ sym (of_column_is (alone table) 0 (with_tree table 0) (stands_alone table) called listed may_aggregate slot at)
  affinity_same (op1 op a) = refl
  affinity_same (op2 op a b) = refl
  affinity_same (case x a b) = refl

  parameter_same : (depth n : ℕ) → IsSame (suc depth) (written.Parameter n)
  unfolding opened
  parameter_same depth n = lowered_same first_context second_context depth (written.Parameter n) (λ st.
      (λ i. node_at (lower_to depth) first_context (written.outs-Parameter n i) st)
      ∙ sym (λ i. node_at (lower_to depth) second_context (written.outs-Parameter n i) st))

  combined_same : (how : Collation) (a b : Term) (st : State)
      → combine first_context binary.Eq how a b st ≡ combine second_context binary.Eq how a b st
  unfolding combine compared
  combined_same how a b st i =
      pure (op2 (Compare Eq how) (converted (affinity_same a i) (affinity_same b i) a)
      (converted (affinity_same b i) (affinity_same a i) b)) st

  module _ (depth : ℕ) (a b : Expr) (left : IsSame depth a) (right : IsSame depth b) where
    equals_same : IsSame (suc depth) (written.Binary binary.Eq a b)
    unfolding opened operation wanted_truth both tests_truth tests_alias
    equals_same = lowered_same first_context second_context depth (written.Binary binary.Eq a b) (λ st.
        (λ i. node_at (lower_to depth) first_context (written.outs-Binary binary.Eq a b i) st)
        ∙ (λ i.
        and_then (left st i) (λ x. and_then (right x.1 i) (λ y.
        combined_same (chosen x.1.last y.1.last) x.0 y.0 y.1 i)))
        ∙ sym (λ i. node_at (lower_to depth) second_context (written.outs-Binary binary.Eq a b i) st))

    both_same : IsSame (suc depth) (written.Binary binary.And a b)
    unfolding opened operation wanted_truth both tests_truth tests_alias combine
    both_same = lowered_same first_context second_context depth (written.Binary binary.And a b) (λ st.
        (λ i. node_at (lower_to depth) first_context (written.outs-Binary binary.And a b i) st)
        ∙ (λ i.
        and_then (left st i) (λ x. and_then (right x.1 i) (λ y.
        combine first_context binary.And (chosen x.1.last y.1.last) x.0 y.0 y.1)))
        ∙ sym (λ i. node_at (lower_to depth) second_context (written.outs-Binary binary.And a b i) st))

  -- ---- the columns of the result

  pub outputs_same : (names : List Name) → list_all (is_known table) names ≡ true → (done : List Output) (st : State)
      → outputs_from lower first_context (bound_at called p ∷ []) done (map shown_written names) st
      ≡ outputs_from lower second_context (bound_at called 0 ∷ []) done (map shown_written names) st
  unfolding shown out-Shown denote.Hole.Carrier.out
  outputs_same [] known done st = refl
  outputs_same (name ∷ names) known done st =
      let both = and_parts _ _ known in
      let here = column_same 699 name both.0 st in
      let head = heading_same name name both.0 in
      λ i.
      and_then (and_then (here i) (λ x. and_then (last x.1) (λ y.
      pure (done
      ++ record {
        name = head i;
        is_alias = false;
        is_column = is_column (column_written name);
        term = x.0;
        carried = y.0;
      } ∷ []) y.1))) (λ longer. outputs_same names both.1 longer.0 longer.1 i)

  -- ---- the tests of WHERE

  equal_same : (depth n : ℕ) (name : Name) → is_known table name ≡ true
      → IsSame (suc (suc depth)) (equal_written name n)
  equal_same depth n name known =
      equals_same (suc depth) (column_written name) (written.Parameter n) (column_same depth name known)
      (parameter_same depth n)

  -- the test has the same meaning, if there is one
  abbrev IsSameTest : Option Expr → Type 0
  IsSameTest None = Unit {0}
  IsSameTest (Some e) = IsSame 700 e

  test_same : (names : List Name) → list_all (is_known table) names ≡ true → IsSameTest (filter_written names)
  test_same [] all = tt
  test_same (x ∷ []) all = equal_same 698 1 x (and_parts _ _ all).0
  test_same (x ∷ y ∷ []) all =
      let first = and_parts _ _ all in
      let second = and_parts _ _ first.1 in
      both_same 699 (equal_written x 1) (equal_written y 2) (equal_same 697 1 x first.0) (equal_same 697 2 y second.0)
  test_same (x ∷ y ∷ z ∷ more) all =
      let first = and_parts _ _ all in
      let second = and_parts _ _ first.1 in
      let third = and_parts _ _ second.1 in
      both_same 699 (written.Binary binary.And (equal_written x 1) (equal_written y 2)) (equal_written z 3)
      (both_same 698 (equal_written x 1) (equal_written y 2) (equal_same 696 1 x first.0) (equal_same 696 2 y second.0))
      (equal_same 697 3 z third.0)

  same_tests : (filter : Option Expr) → IsSameTest filter → (done : List Term) (st : State)
      → tests lower first_context done filter st ≡ tests lower second_context done filter st
  unfolding tests
  same_tests None same done st = refl
  same_tests (Some e) same done st = λ i. and_then (same st i) (λ x. pure (done ++ conjuncts x.0) x.1)

  pub tests_same : (names : List Name) → list_all (is_known table) names ≡ true → (done : List Term) (st : State)
      → tests lower first_context done (filter_written names) st
      ≡ tests lower second_context done (filter_written names) st
  tests_same names known = same_tests (filter_written names) (test_same names known)

  -- ---- ORDER BY

  key_same : (name : Name) → is_known table name ≡ true → (shown : List Output) (o : Option ℕ) (st : State)
      → aliased_or lower first_context shown (column_written name) o st
      ≡ aliased_or lower second_context shown (column_written name) o st
  unfolding key
  key_same name known shown (Some at) st i = aliased_or lower first_context shown (column_written name) (Some at) st
  key_same name known shown None st i =
      and_then (column_same 699 name known st i) (λ x.
      (if is_numeral (column_written name) then lift (place_in x.0) >>= shown_again may_aggregate shown
      else (if reads_below 1 x.0 then fail Unsupported else pure x.0)) x.1)

  sort_same : (falls : Bool) (name : Name) → is_known table name ≡ true → (shown : List Output)
      (done : List (Term × Key)) (st : State)
      → sort lower first_context shown done (sort_written falls name) st
      ≡ sort lower second_context shown done (sort_written falls name) st
  unfolding sort peeled out-Expr denote.Hole.Carrier.out
  sort_same falls name known shown done st i =
      and_then (key_same name known shown (alias_in shown (column_written name)) st i) (λ x.
      and_then (collation_of (column_written name) x.1) (λ how.
      placed done (record { collation = how.0; descending = falls }) None x.0 how.1))

  pub sorts_same : (falls : Bool) (names : List Name) → list_all (is_known table) names ≡ true
      → (shown : List Output) (done : List (Term × Key)) (st : State)
      → sorts_from lower first_context shown done (map (sort_written falls) names) st
      ≡ sorts_from lower second_context shown done (map (sort_written falls) names) st
  sorts_same falls [] known shown done st = refl
  sorts_same falls (name ∷ names) known shown done st =
      let both = and_parts _ _ known in
      λ i.
      and_then (sort_same falls name both.0 shown done st i)
      (λ longer. sorts_same falls names both.1 shown longer.0 longer.1 i)
