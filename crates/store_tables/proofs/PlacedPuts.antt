-- The texts that put a row put it wherever its table stands in a schema.
use Rattle.std.proofs.Common.{◌≡◌, ℤ, Bool, true, false, List, [], ◌∷◌, ◌++◌, Some, refl, sym, ap, subst, ◌∙◌, length}
use Rattle.std.proofs.Common.{slice_get, slice_index_or, drop, ◌||◌, ◌&&◌, ℕ, ◌==◌, Option, None, flat_map, filter_map}
use Rattle.std.proofs.Common.{IfSome, cond, subst₂, if◌then◌else◌, eq-eqb}
use Rattle.std.proofs.lemmas.Bool.{and_parts, and_from, false_from_ne_true, not-true, both_ways}
use Rattle.std.proofs.lemmas.Slice.Eq.{bytes_eq-Decides}
use Rattle.std.specs.List.{AllByRecursion, list_any, range_with_len}
use Rattle.sqlite.specs.Effect.{IsSource}
use Rattle.store_tables.specs.Sql.{Row, column, Schema, Table, Trees, Has, rowid}
use Rattle.sqlite.specs.Rows.{stamped, shown}
use Rattle.sqlite.specs.Term.{eval_all}
use Rattle.sqlite_rules.proofs.ListLemmas.{all_has, has_got, some_has, some_from, test_has}
use Rattle.sqlite_rules.specs.Keys.{aims, conflicts, shares}
use Rattle.sqlite_schema.specs.Rules.{agree, guards, Keeps as KeepsRule, ParentKey, parent_key, equal, differ}
use Rattle.sqlite_schema.specs.declared.schema.Index.{Index}
use Rattle.sqlite_value.specs.Keys.{plain, first_key}
use Rattle.sqlite.specs.declared.types.Value.TheVariants.{Null, Int, Text as Words}
use Rattle.sqlite_catalog.specs.Listing.{automatic}
use Rattle.sqlite_rules.specs.Action.{works, Work, loses, pairs, work_by, work_for}
use Rattle.sqlite_rules.specs.Cast.{cast_row, cast}
use Rattle.sqlite_rules.specs.Edit.{next_rowid, with_rowid}
use Rattle.sqlite_rules.specs.declared.error.Rowids.TheVariants.{Chosen}
use Rattle.sqlite_schema.specs.declared.schema.Constraint.TheVariants.{Unique}
use Rattle.sqlite_schema.specs.declared.schema.Keys.TheVariants.{Enforced}
use Rattle.sqlite_value.specs.declared.value.Value.{Value}
use Rattle.store_tables.specs.Cells.{MetaRow, MemberRow, EventRow, EventRuleRow, ChallengeRow, MoveRow, GameTableRow}
use Rattle.store_tables.specs.Cells.{SeenRow, ScoreRow, event_cells, ruling_cells}
use Rattle.store_tables.specs.internal.Cells.{meta_cells, member_cells, challenge_cells}
use Rattle.store_tables.specs.Cells.{move_cells, game_cells, seen_cells}
use Rattle.store_tables.specs.internal.Cells.{event_rule_cells, score_cells}
use Rattle.store_tables.specs.internal.Cells.{ClosingRow, KeyRow, RulingRow, closing_cells, key_cells}
use Rattle.store_tables.specs.Content.{cells, same_key}
use Rattle.store_tables.specs.Placed.{IsAlike, IsLeftAlone, HasTableAt, only, IsOfOthers}
use Rattle.store_tables.specs.internal.Put.{IsPut}
use Rattle.store_tables.specs.Tables.{made_as, standing}
use Rattle.store_tables.specs.declared.names.Table as of_club
use Rattle.store_tables.specs.declared.names.Table.TheVariants.{Members, Events, EventRules, Challenges, Moves, Games}
use Rattle.store_tables.specs.declared.names.Table.TheVariants.{Seen, Scores, Meta, Rulings, Closings}
use Rattle.store_tables.specs.declared.names.Table.TheVariants as variant
use Rattle.store_tables.proofs.Meanings.{source_of, updates_of}
use Rattle.store_tables.proofs.PlacedSelects.{is_bare}
use Rattle.sqlite_rules.specs.declared.action.Deed.{Deed}
use Rattle.sqlite_schema.specs.declared.schema.Keys.{Keys}
use Rattle.sqlite_schema.specs.declared.schema.Reference.{Reference}
use Rattle.sqlite.specs.Values.{or_null}
use Rattle.sqlite.specs.Kind.TheVariants.{Integer, Text}
use Rattle.sqlite.specs.Collation.TheVariants.{Binary}
use Rattle.sqlite_rules.proofs.RuleLemmas.{keeps_at}
use Rattle.sqlite_sql.specs.Ops.{unary}
use Rattle.store_tables.proofs.KeyLemmas.{equal_ints, differ_ints}

-- ---- no FOREIGN KEY of theirs acts

elsewhere : (key tree : ℕ) (x : Bool) (w : Work) → (key == tree) ≡ false
    → ◌≡◌ {A = Option Work} (if (key == tree) && x then Some w else None) None
elsewhere key tree x w other i = if other i && x then Some w else None

module _ (table : Table) (depth : ℕ) where
  no_work : (moves : List (Row × Row)) (child : Table) (ref : Reference) (deed : Option Deed) (key : Option ParentKey)
      → IfSome key (λ k. AllByRecursion (λ t. (k.0 == t.tree) ≡ false) (only table).tables)
      → work_by depth table.tree moves child ref deed key ≡ None
  no_work moves child ref None key other = refl
  no_work moves child ref (Some deed) None other = refl
  no_work moves child ref (Some deed) (Some key) other =
      elsewhere key.0 table.tree (list_any (loses key.2 key.1) moves) _ other.0

  module _ (schema : Schema) (keys : Keys) (olds news : List Row) where
    none_for : (child : Table) (refs : List Reference) → AllByRecursion (IsOfOthers (only table) schema.tables) refs
        → filter_map (work_for schema keys depth table.tree olds news child) refs ≡ []
    none_for child [] others = refl
    none_for child (ref ∷ refs) others =
        let here : work_for schema keys depth table.tree olds news child ref ≡ None =
        no_work (pairs olds news) child ref _ (parent_key schema.tables ref) others.0 in
        rw here (none_for child refs others.1)

    no_works : (ts : List Table)
        → AllByRecursion (λ t. AllByRecursion (IsOfOthers (only table) schema.tables) t.references) ts
        → flat_map (λ child. filter_map (work_for schema keys depth table.tree olds news child) child.references) ts
        ≡ []
    no_works [] others = refl
    no_works (t ∷ ts) others = rw (none_for t t.references others.0) (no_works ts others.1)

-- ---- what stays as it is when it is cast, and when keys are the same

either : {X : Type 0} (b : Bool) (x : X) → cond b x x ≡ x
either true x = refl
either false x = refl

cast_null : cast Integer Null ≡ Null
unfolding unary
cast_null = either _ Null

cast_int : (n : ℤ) → cast Integer (Int n) ≡ Int n
unfolding unary
cast_int n = either _ (Int n)

-- two rows with the key of a unique index have one rowid
by_index : (schema : Schema) (table : Table) (index : Index) → Has schema.tables table → Has schema.indexes index
    → guards index table ≡ true → (next : Trees) (r s : Row) (m n : ℤ) → KeepsRule Unique schema next
    → rowid r ≡ Int m → rowid s ≡ Int n → Has (next table.tree) r → Has (next table.tree) s
    → agree index.order index.columns r index.columns s ≡ true → n ≡ m
by_index schema table index listed has guard next r s m n keeps id jd there here same =
    let passes = test_has _ schema.indexes index (keeps_at Unique schema next table s keeps listed here) has in
    sym
    (differ_ints m n
    (subst₂ (λ a b. differ a b ≡ false) id jd
    (false_from_ne_true _
    (λ apart. both_ways _ (not-true _ passes)
    (and_from _ _ guard (some_from _ (next table.tree) r there (and_from _ _ same apart)))))))

cast_maybe_int : (o : Option ℤ) → cast Integer (or_null Int o) ≡ or_null Int o
cast_maybe_int None = cast_null
cast_maybe_int (Some n) = cast_int n

cast_maybe_text : {X : Type 0} (f : X → List ℕ) (o : Option X)
    → cast Text (or_null (λ x. Words (f x)) o) ≡ or_null (λ x. Words (f x)) o
cast_maybe_text f None = refl
cast_maybe_text f (Some x) = refl

-- the columns of the primary key, which come first
abbrev pub key_of : of_club.Table → List ℕ
key_of table = range_with_len 0 (length (standing table).primary)

by_id : (s : Row) (m id : ℤ) → rowid s ≡ Int m → same_key (0 ∷ []) (rowid s ∷ []) (Int id ∷ []) ≡ true → id ≡ m
unfolding first_key
by_id s m id is same =
    sym (equal_ints m id (subst (λ v. equal Binary v (Int id) ≡ true) is (and_parts _ _ same).0))

pub same_test : (one two : Bool) → (one ≡ true → two ≡ true) → (two ≡ true → one ≡ true) → one ≡ two
same_test true two there back = sym (there refl)
same_test false true there back = back refl
same_test false false there back = refl

-- ---- an index over the columns of the key

module _ (table : Table) (new row : Row) where
  abbrev has_key : Bool
  has_key = agree plain table.primary row table.primary new

  shared_by : (i : Index) → IsAlike table i → shares (Some table.primary) table new row i ≡ true → has_key ≡ true
  shared_by i alike h =
      let all = and_parts _ _ h in
      let columns : table.primary ≡ i.columns =
      (bytes_eq-Decides table.primary i.columns).0 (and_parts _ _ all.0).1 in
      subst (λ k. agree plain k row k new ≡ true) (sym columns)
      (subst (λ o. agree o i.columns row i.columns new ≡ true) (alike all.0) all.1)

  shared_has : (is : List Index) → AllByRecursion (IsAlike table) is
      → list_any (shares (Some table.primary) table new row) is ≡ true → has_key ≡ true
  shared_has is alike h =
      let it = some_has (shares (Some table.primary) table new row) is h in
      shared_by it.0 (all_has (IsAlike table) is it.0 alike it.1) it.2

  absorbed : (one two : Bool) → (two ≡ true → one ≡ true) → (one || two) ≡ one
  absorbed true two h = refl
  absorbed false true h = sym (h refl)
  absorbed false false h = refl

  -- A row meets the new one by its rowid, which is its key.
  pub meets_by_id : (is : List Index) → AllByRecursion (IsAlike table) is → table.primary ≡ 0 ∷ []
      → conflicts (Some table.primary) is table new row ≡ has_key
  meets_by_id is alike id =
      (λ i.
      ((bytes_eq-Decides table.primary (0 ∷ [])).1 id i && agree plain (sym id i) row (sym id i) new)
      || list_any (shares (Some table.primary) table new row) is)
      ∙ absorbed has_key (list_any (shares (Some table.primary) table new row) is) (shared_has is alike)

  -- A row meets the new one by the index of its key, which is at this place among the table's indexes.
  pub meets_by_index : (is : List Index) → AllByRecursion (IsAlike table) is
      → aims (Some table.primary) (0 ∷ []) ≡ false → (at : ℕ) → slice_index_or table.orders at plain ≡ plain
      → (tree : ℕ) → Has is (automatic table at table.primary tree)
      → conflicts (Some table.primary) is table new row ≡ has_key
  meets_by_index is alike other at ordered tree has =
      (λ i.
      (other i && agree plain (0 ∷ []) row (0 ∷ []) new) || list_any (shares (Some table.primary) table new row) is)
      ∙ same_test (list_any (shares (Some table.primary) table new row) is) has_key (shared_has is alike)
      (λ h. some_from (shares (Some table.primary) table new row) is (automatic table at table.primary tree) has
      (and_from _ _ (and_from _ _ (eq-eqb table.tree table.tree refl)
      ((bytes_eq-Decides table.primary table.primary).1 refl))
      (subst (λ o. agree o table.primary row table.primary new ≡ true) (sym ordered) h)))

-- ---- a row that is put

-- the text of the table puts this row where the table stands
abbrev PutsHere : (schema : Schema) (table : of_club.Table) → HasTableAt schema table → Row → Type 0
PutsHere schema table stands row =
    IsPut schema (made_as table stands.tree) (key_of table) row row (source_of (made_as table stands.tree))
    (made_as table stands.tree).primary (length (made_as table stands.tree).columns)
    (updates_of (made_as table stands.tree))

-- it puts it wherever the table stands, and what other programs made has no part in it
abbrev pub PutsAnywhere : of_club.Table → Row → Type 0
PutsAnywhere table row =
    (schema : Schema) (stands : HasTableAt schema table) → IsLeftAlone schema (made_as table stands.tree)
    → PutsHere schema table stands row

module _ (of_this : of_club.Table) (schema : Schema) (stands : HasTableAt schema of_this)
    (clear : IsLeftAlone schema (made_as of_this stands.tree)) where
  abbrev there : Table
  there = made_as of_this stands.tree

  listed : Has schema.tables there
  listed = has_got schema.tables stands.place there stands.at

  -- no FOREIGN KEY acts
  idle : (olds news : List Row) → works schema Enforced 0 there.tree olds news ≡ []
  idle olds news = no_works there 0 schema Enforced olds news schema.tables clear.childless

  -- The row is made of its source, and stored by its rowid.
  module _ (row source : Row) (stored : Value → Row) where
    -- what DO UPDATE reads, where this row was
    abbrev read_over : Row → ℤ → Row
    read_over was n = row ++ rowid was ∷ shown there (stored (Int n))

    -- What is found by computing: what is put,
    abbrev IsSourced : Type 0
    IsSourced =
        ((db : Trees) (rows : List Row)
        → IsSource (record { schema = schema; trees = db }) (stamped there row) (source_of there) rows
        → rows ≡ source ∷ [])
        × (there.is_counted ≡ false)

    -- that the values have the types of their columns,
    abbrev IsTyped : Type 0
    IsTyped =
        ((rows : List Row) → (n : ℤ) × (with_rowid Chosen rows (cast_row there source) ≡ stored (Int n)))
        × ((n : ℤ) → cast_row there (stored (Int n)) ≡ stored (Int n))

    -- and what is shown of it, by its key, too, and what DO UPDATE makes.
    abbrev Shows : Type 0
    Shows =
        ((n : ℤ) → cells there (stored (Int n)) ≡ row)
        × ((r : Row) (n : ℤ) → agree plain there.primary r there.primary (stored (Int n))
        ≡ same_key (key_of of_this) (cells there r) row)
        × ((was : Row) (n : ℤ) → column (read_over was n) (length there.columns) ≡ rowid was)
        × ((stood was : Row) (n : ℤ) → eval_all (updates_of there) (read_over stood n ∷ was ∷ [])
        ≡ rowid was ∷ stored (rowid was))

    abbrev Meets : Type 0
    Meets = (r : Row) (n : ℤ) → conflicts (Some there.primary) schema.indexes there (stored (Int n)) r
        ≡ agree plain there.primary r there.primary (stored (Int n))

    -- The row that has its key has its rowid.
    abbrev IsNamed : Type 0
    IsNamed = (was : Row) (m : ℤ) → rowid was ≡ Int m → same_key (key_of of_this) (cells there was) row ≡ true
        → rowid (stored (Int m)) ≡ Int m

    abbrev IsDistinct : Type 0
    IsDistinct = (next : Trees) (r : Row) (n m : ℤ) → KeepsRule Unique schema next → rowid r ≡ Int m
        → Has (next there.tree) r → Has (next there.tree) (stored (Int n))
        → same_key (key_of of_this) (cells there r) row ≡ true → rowid (stored (Int n)) ≡ rowid r

    puts : IsSourced → IsTyped → Shows → Meets → IsNamed → IsDistinct → PutsHere schema of_this stands row
    puts sourced typed shows meets named distinct = record {
      source = source;
      stored = λ n. stored (Int n);
      sourced = sourced.0;
      uncounted = sourced.1;
      idle = idle;
      overlaid = is_bare schema of_this stands;
      placed = typed.0;
      recast = typed.1;
      shows = shows.0;
      meets = λ r n. meets r n ∙ shows.1 r n;
      based = shows.2;
      updated = λ stood was n m id. shows.3 stood was n ∙ ap (λ v. v ∷ stored v) id;
      named = named;
      distinct = distinct;
    }

  -- ---- a row whose id is the rowid

  module _ (id : ℤ) (rest : Row) where
    abbrev with_null : Value → Row
    with_null v = Int id ∷ Null ∷ rest

    puts_by_id : there.primary ≡ 0 ∷ [] → IsSourced (Int id ∷ rest) (with_null Null) with_null
        → cast_row there (with_null Null) ≡ with_null Null → Shows (Int id ∷ rest) (with_null Null) with_null
        → ((r : Row) → same_key (key_of of_this) (cells there r) (Int id ∷ rest)
        ≡ same_key (0 ∷ []) (rowid r ∷ []) (Int id ∷ []))
        → PutsHere schema of_this stands (Int id ∷ rest)
    puts_by_id by_rowid sourced casts shows same =
        puts (Int id ∷ rest) (with_null Null) with_null sourced
        (λ rows. (id, ap (with_rowid Chosen rows) casts), λ n. casts) shows
        (λ r n. meets_by_id there (with_null (Int n)) r schema.indexes clear.alike by_rowid) the_id
        (λ next r n m keeps is found put alike. the_id r m is alike ∙ sym is)
      where
        the_id : (was : Row) (m : ℤ) → rowid was ≡ Int m
            → same_key (key_of of_this) (cells there was) (Int id ∷ rest) ≡ true → Int id ≡ Int m
        the_id was m is alike = ap Int (by_id was m id is (sym (same was) ∙ alike))

  -- ---- a row whose key has an index

  module _ (row : Row) where
    abbrev with_rowid_first : Value → Row
    with_rowid_first v = v ∷ row

    puts_by_key : aims (Some there.primary) (0 ∷ []) ≡ false → (at : ℕ)
        → slice_get there.uniques at ≡ Some there.primary → slice_index_or there.orders at plain ≡ plain → IsSourced row (Null ∷ row) with_rowid_first
        → ((v : Value) → cast_row there (v ∷ row) ≡ cast Integer v ∷ row)
        → Shows row (Null ∷ row) with_rowid_first
        → PutsHere schema of_this stands row
    puts_by_key other at unique ordered sourced casts shows =
        let own = stands.guarded at there.primary unique in
        let index : Index = automatic there at there.primary own.0 in
        let guard : guards index there ≡ true = eq-eqb there.tree there.tree refl in
        let cast_as = λ (v w : Value) (is : cast Integer v ≡ w). casts v ∙ ap with_rowid_first is in
        puts row (Null ∷ row) with_rowid_first sourced (
          λ rows. (next_rowid rows, ap (with_rowid Chosen rows) (cast_as Null Null cast_null)),
          λ n. cast_as (Int n) (Int n) (cast_int n),
        ) shows
        (λ r n. meets_by_index there (with_rowid_first (Int n)) r schema.indexes clear.alike other at ordered own.0 own.1)
        (λ was m id alike. refl)
        (λ next r n m keeps id found put alike.
        ap Int
        (by_index schema there index listed own.1 guard next r (Int n ∷ row) m n keeps id refl found put
        (ap (λ o. agree o there.primary r there.primary (Int n ∷ row)) ordered ∙ shows.1 r n ∙ alike)) ∙ sym id)

-- ---- the rows of each table

pub meta_placed : (r : MetaRow) → PutsAnywhere Meta (meta_cells r)
meta_placed r schema stands clear =
    puts_by_id Meta schema stands clear r.id (drop 1 (meta_cells r)) refl (λ db rows h. h.1, refl)
    (simp (cast_null, cast_int)) (λ n. refl, λ s n. refl, λ was n. refl, λ stood was n. refl) (λ s. refl)

pub member_placed : (r : MemberRow) → PutsAnywhere Members (member_cells r)
member_placed r schema stands clear =
    puts_by_id Members schema stands clear r.id (drop 1 (member_cells r)) refl (λ db rows h. h.1, refl)
    (simp (cast_null, cast_int)) (λ n. refl, λ s n. refl, λ was n. refl, λ stood was n. refl) (λ s. refl)

pub event_placed : (r : EventRow) → PutsAnywhere Events (event_cells r)
event_placed r schema stands clear =
    puts_by_id Events schema stands clear r.id (drop 1 (event_cells r)) refl (λ db rows h. h.1, refl)
    (simp (cast_null, cast_int)) (λ n. refl, λ s n. refl, λ was n. refl, λ stood was n. refl) (λ s. refl)

pub event_rule_placed : (r : EventRuleRow) → PutsAnywhere EventRules (event_rule_cells r)
event_rule_placed r schema stands clear =
    puts_by_id EventRules schema stands clear r.event (drop 1 (event_rule_cells r)) refl (λ db rows h. h.1, refl)
    (simp (cast_null, cast_int)) (λ n. refl, λ s n. refl, λ was n. refl, λ stood was n. refl) (λ s. refl)

pub game_placed : (r : GameTableRow) → PutsAnywhere Games (game_cells r)
game_placed r schema stands clear =
    puts_by_id Games schema stands clear r.id (drop 1 (game_cells r)) refl (λ db rows h. h.1, refl)
    (simp (cast_null, cast_int, cast_maybe_int, cast_maybe_text))
    (λ n. refl, λ s n. refl, λ was n. refl, λ stood was n. refl) (λ s. refl)

pub challenge_placed : (r : ChallengeRow) → PutsAnywhere Challenges (challenge_cells r)
challenge_placed r schema stands clear =
    puts_by_key Challenges schema stands clear (challenge_cells r) refl 0 refl refl (λ db rows h. h.1, refl)
    (λ v. simp (cast_int, cast_maybe_int)) (λ n. refl, λ s n. refl, λ was n. refl, λ stood was n. refl)

pub move_placed : (r : MoveRow) → PutsAnywhere Moves (move_cells r)
move_placed r schema stands clear =
    puts_by_key Moves schema stands clear (move_cells r) refl 0 refl refl (λ db rows h. h.1, refl)
    (λ v. simp (cast_int)) (λ n. refl, λ s n. refl, λ was n. refl, λ stood was n. refl)

pub seen_placed : (r : SeenRow) → PutsAnywhere Seen (seen_cells r)
seen_placed r schema stands clear =
    puts_by_key Seen schema stands clear (seen_cells r) refl 0 refl refl (λ db rows h. h.1, refl)
    (λ v. simp (cast_int)) (λ n. refl, λ s n. refl, λ was n. refl, λ stood was n. refl)

pub score_placed : (r : ScoreRow) → PutsAnywhere Scores (score_cells r)
score_placed r schema stands clear =
    puts_by_key Scores schema stands clear (score_cells r) refl 0 refl refl (λ db rows h. h.1, refl)
    (λ v. simp (cast_int)) (λ n. refl, λ s n. refl, λ was n. refl, λ stood was n. refl)

pub key_placed : (r : KeyRow) → PutsAnywhere variant.Keys (key_cells r)
key_placed r schema stands clear =
    puts_by_key variant.Keys schema stands clear (key_cells r) refl 1 refl refl (λ db rows h. h.1, refl)
    (λ v. simp (cast_int)) (λ n. refl, λ s n. refl, λ was n. refl, λ stood was n. refl)

pub ruling_placed : (r : RulingRow) → PutsAnywhere Rulings (ruling_cells r)
ruling_placed r schema stands clear =
    puts_by_key Rulings schema stands clear (ruling_cells r) refl 0 refl refl (λ db rows h. h.1, refl)
    (λ v. simp (cast_int, cast_maybe_text)) (λ n. refl, λ s n. refl, λ was n. refl, λ stood was n. refl)

pub closing_placed : (r : ClosingRow) → PutsAnywhere Closings (closing_cells r)
closing_placed r schema stands clear =
    puts_by_id Closings schema stands clear r.event (drop 1 (closing_cells r)) refl (λ db rows h. h.1, refl)
    (simp (cast_null, cast_int)) (λ n. refl, λ s n. refl, λ was n. refl, λ stood was n. refl) (λ s. refl)
