-- What the texts of a table tell of a call.
use Rattle.std.proofs.Common.{◌≡◌, ℕ, ℤ, ◌<◌, List, [], ◌∷◌, map, length, Result, Ok, Err, refl, ap, sym, subst, subst₂}
use Rattle.std.proofs.Common.{◌∙◌, arith, true≢false, Ordering, pos, get_or, suc, ◌+◌, is_lt, inl, inr, ◌⊎◌, Bool, true}
use Rattle.std.proofs.Common.{Some, None, rules, ◌<ℤ◌}
use Rattle.std.specs.Result.{OnOk}
use Rattle.std.proofs.lemmas.List.Sorted.{length_permutation}
use Rattle.std.proofs.lemmas.Result.{IfOk-weaker}
use Rattle.std.specs.declared.cmp.Ordering.TheVariants.{Equal, Less}
use Rattle.std.specs.Cmp.{int_cmp_is}
use Rattle.std.proofs.lemmas.List.Sorted.{sorted_far, ranks_by}
use Rattle.sqlite_value.specs.Order.{value_cmp}
use Rattle.sqlite.specs.Collation.TheVariants.{Binary}
use Rattle.sqlite_value.specs.declared.keys.Key.{Key}
use Rattle.sqlite_value.proofs.OrderLemmas.{value_cmp-Int}
use Rattle.sqlite_sql.proofs.QueryLemmas.{key_cmp_total}
use Rattle.std.specs.Prelude.{IfOk, IfErr, OnErr, IsTrue, is_ok, ◌≢◌, false}
use Rattle.std.specs.List.Sorted.{IsPermutation, IsSorted}
use Rattle.sqlite_rules.proofs.ListLemmas.{all_has}
use Rattle.sqlite_sql.specs.Term.{eval_all}
use Rattle.store_tables.specs.Sql.{Row, column, Table, Trees, Schema, State, Shown, Survives, HasCleanDisk, IsUnchanged}
use Rattle.store_tables.specs.Sql.{Has, rowid, understood}
use Rattle.sqlite.specs.declared.types.Value.TheVariants.{Int}
use Rattle.sqlite.specs.declared.error.Error.{Error}
use Rattle.sqlite.specs.State.{FailsToQuery, CommitsShowing, IsRolledBack, QueriesRow}
use Rattle.sqlite.specs.declared.error.Error.TheVariants.{QueryReturnedNoRows}
use Rattle.sqlite.proofs.Callers.{IsPlain, reads_as}
use Rattle.store_tables.specs.Over.{HasRowsIn}
use Rattle.store_tables.specs.Placed.{HasTableAt, club_trees, tables_of}
use Rattle.store_tables.specs.internal.Placed.{AsksAnywhere, LooksUpAnywhere}
use Rattle.store_tables.specs.Changes.{HaveSame}
use Rattle.store_tables.specs.Content.{Keeps, cells}
use Rattle.store_tables.specs.Contents.{Content, Stores}
use Rattle.store_tables.specs.internal.Contents.{AreThose}
use Rattle.store_tables.specs.internal.Queries.{AreShownBy, Finds, IsSelect, by_others}
use Rattle.store_tables.specs.Reading.{KeepsContent, KeepsMay, Reads}
use Rattle.store_tables.specs.internal.Reading.{by_columns, by_first_falling, ReturnsRows, TellsIds, IsNoInput}
use Rattle.store_tables.specs.declared.names.Version.{Version}
use Rattle.store_tables.specs.declared.names.Version.TheVariants.{V3}
use Rattle.store_tables.proofs.Proved.{select_unchanged, only_reads, reads_by, unchanged_exactly, tells, tells_ids}
use Rattle.store_tables.proofs.Proved.{has_index, no_missing, only_left, row_of_whole, select_fails}
use Rattle.store_tables.proofs.Proved.{finds, no_input, ids_of, each_shown, one_list, sorted_rows, has_map}
use Rattle.store_tables.proofs.Proved.{in_order as in_order_by}
use Rattle.store_tables.proofs.Proved.{places_rise, same_length, alone_takes, in_all, rows_standing, rows_stored}
use Rattle.store_tables.proofs.Proved.{among_tables, cells_are, tables_are, told_here, tree_is, trees_here}
use Rattle.store_tables.specs.Tables.{made_as, schema_of, standing}
use Rattle.store_tables.specs.internal.Tables.{club_schema, has_table}
use Rattle.store_tables.specs.internal.Texts.{all_text, ids_text, by_column_text, by_first_text, last_text}
use Rattle.store_tables.specs.internal.Texts.{question_text}
use Rattle.store_tables.specs.Names.{in_order, tree_of}
use Rattle.store_tables.specs.declared.names.Table as of_club
use Rattle.store_tables.specs.declared.names.Table.TheVariants.{Meta}
use Rattle.store_sql.specs.declared.fault.ReadFault.{ReadFault}
use Rattle.store_sql.specs.declared.fault.ReadFault.TheVariants.{WrongType}
use Rattle.store_sql.specs.Read.{beginning_with}
use Rattle.store_sql.specs.internal.Read.{AreReadOf, BeginWithPlaces, IsLast, was_read}
use Rattle.store_sql.proofs.GroupLemmas.{each_found}

-- a connection that only read, and answered, holds what it held
pub keeps_content : (old new : State) → IsUnchanged old new → KeepsMay old new → KeepsContent old new
keeps_content old new same may schema content k =
    unchanged_exactly schema content old new k same (λ db h. k.may_leave db (may db h))

-- what is said of an answer, where there is one
answer_of : {T E : Type 0} (r : Result T E) (P : T → Type 0) → IfOk r P → IsTrue (is_ok r) → (x : T) × P x
answer_of (Ok x) P h answered = (x, h)
answer_of (Err e) P h answered = absurd (true≢false (sym answered))

-- what always holds holds of an answer
pub always : {T E : Type 0} (r : Result T E) (P : Type 0) → P → OnOk r P
always (Ok x) P p = p
always (Err e) P p = tt

-- and of a fault
pub always_err : {T E : Type 0} (r : Result T E) (P : Type 0) → P → OnErr r P
always_err (Ok x) P p = tt
always_err (Err e) P p = p

-- and what holds of rows holds of what was read of them
pub carried : {T E : Type 0} (r : Result T E) (rows : T → List Row) (shown : List Row) (P : List Row → Type 0)
    → IfOk r (λ x. shown ≡ rows x) → P shown → IfOk r (λ x. P (rows x))
carried (Ok x) rows shown P is p = subst P is p
carried (Err e) rows shown P is p = tt

-- a call with a SELECT only reads, and where it answers it leaves what the connection holds
pub select_reads : {X : Type 0} {text : List ℕ} → IsSelect text → (sql : List ℕ) → sql ≡ text → (params : Row)
    (old new : State) (items : X → List Row) (r : Result X Error)
    → (old.in_transaction ≡ false → new.in_transaction ≡ false)
    → Survives old new (CommitsShowing sql params old)
    → (HasCleanDisk new → IfOk r (λ x. Shown sql params old new (items x)))
    → (HasCleanDisk new → IfErr r (FailsToQuery sql params old new)) → Reads (is_ok r) old new
select_reads is_select sql is params old new items r mode survives ok err =
    let select = subst IsSelect (sym is) is_select in
    let only = only_reads sql select params old new items r mode survives ok err in
    reads_by (is_ok r) old new only
    (λ answered clean.
    let shown = answer_of r (λ x. Shown sql params old new (items x)) (ok clean) answered in
    keeps_content old new (select_unchanged sql select params old new (items shown.0) shown.1) (only.may clean))

-- a text that is understood is not refused for how it is written
pub known : {sql text : List ℕ} (old new : State) → sql ≡ text → IsPlain (understood old.now.schema text)
    → (params : Row) (e : Error) → FailsToQuery sql params old new e → IsNoInput e
known {sql = sql} old new is plain params e =
    no_input old.now.schema sql params old new e
    (subst (λ s. IsPlain (understood old.now.schema s)) (sym is) plain) refl

-- ---- a call for one row

-- it found a row, or that there is none
abbrev pub was_found : Result Row Error → Bool
was_found (Ok row) = true
was_found (Err QueryReturnedNoRows) = true
was_found (Err fault) = false

module _ {text : List ℕ} (is_select : IsSelect text) (sql : List ℕ) (is : sql ≡ text) (params : Row)
    (old new : State) where
  select_is : IsSelect sql
  select_is = subst IsSelect (sym is) is_select

  found_unchanged : (r : Result Row Error) → IsTrue (was_found r) → QueriesRow sql params old new r
      → IsUnchanged old new
  unfolding QueriesRow
  found_unchanged (Ok row) found (inl begun) = begun.1
  found_unchanged (Ok row) found (inr it) = select_unchanged sql select_is params old new it.0 it.1
  found_unchanged (Err QueryReturnedNoRows) found (inl failed) =
      absurd (no_missing sql select_is params old new QueryReturnedNoRows failed refl)
  found_unchanged (Err QueryReturnedNoRows) found (inr it) = select_unchanged sql select_is params old new [] it.1
  found_unchanged (Err fault) found it = absurd (true≢false (sym found))

  row_left : (r : Result Row Error) → QueriesRow sql params old new r → IsUnchanged old new ⊎ IsRolledBack old new
  unfolding QueriesRow
  row_left (Ok row) it = inl (found_unchanged (Ok row) refl it)
  row_left (Err fault) (inl failed) = select_fails sql select_is params old new fault failed
  row_left (Err fault) (inr it) = inl (select_unchanged sql select_is params old new [] it.1)

  pub row_reads : (r : Result Row Error) → (old.in_transaction ≡ false → new.in_transaction ≡ false)
      → Survives old new (CommitsShowing sql params old) → (HasCleanDisk new → QueriesRow sql params old new r)
      → Reads (was_found r) old new
  row_reads r mode survives queries =
      let only = only_left sql select_is params old new mode survives (λ clean. row_left r (queries clean)) in
      reads_by (was_found r) old new only (λ found clean.
      keeps_content old new (found_unchanged r found (queries clean)) (only.may clean))

  -- no row was found
  pub none_shown : QueriesRow sql params old new (Err QueryReturnedNoRows) → Shown sql params old new []
  unfolding QueriesRow
  none_shown (inl failed) = absurd (no_missing sql select_is params old new QueryReturnedNoRows failed refl)
  none_shown (inr it) = it.1

-- ---- the last row

placed : (xs : List Row) (x : Row) → Has xs x → (j : ℕ) × (j < length xs) × (x ≡ get_or xs j [])
placed [] x h = absurd h
placed (y ∷ xs) x (inl same) = (0, omega arith, same)
placed (y ∷ xs) x (inr h) = let it = placed xs x h in (suc it.0, omega (arith, it.1), it.2)

empty : (xs : List Row) → ((x : Row) → Has xs x → ⊥) → xs ≡ []
empty [] none = refl
empty (x ∷ xs) none = absurd (none x (inl refl))

abbrev falling : List Key
falling = record { collation = Binary; descending = true } ∷ []

-- none that follows is above the first
not_above : (row : Row) (tail : List Row) (x : Row) → IsSorted by_first_falling (row ∷ tail) → Has (row ∷ tail) x
    → value_cmp (column row 0) (column x 0) ≢ Less
not_above row tail x falls there less =
    let (j, within, is) = placed (row ∷ tail) x there in
    let far = sorted_far (λ a b. is_lt (by_first_falling a b)) (ranks_by (key_cmp_total falling 0) (λ a. a)) (row ∷ tail)
    falls 0 j [] (omega arith) within in
    let none : is_lt (by_first_falling x row) ≡ false = subst (λ a. is_lt (by_first_falling a row) ≡ false) (sym is) far in
    let e = rw less at none in
    true≢false e

pos_less : (a b : ℕ) → a < b → pos a <ℤ pos b
pos_less a b less = search rules

-- where ids are places, the last row is at the place that is its id
pub last_place : (rows : List Row) (row : Row) (n : ℕ) → BeginWithPlaces rows → IsLast rows (Some row)
    → column row 0 ≡ Int (pos n) → n ≡ length rows
last_place rows row n places (there, above) id =
    let (j, within, is) = placed rows row there in
    let here : Int (pos (j + 1)) ≡ Int (pos n) = sym (places j within) ∙ ap (λ r. column r 0) (sym is) ∙ id in
    let same : j + 1 ≡ n = cc in
    let top : ¬ (j + 1 < length rows) = λ more.
    above (get_or rows (j + 1) []) (has_index rows (j + 1) [] more)
    (subst₂ (λ a b. value_cmp a b ≡ Less) (sym id) (sym (places (j + 1) more))
    (value_cmp-Int (pos n) (pos (j + 1 + 1))
    ∙ sym (int_cmp_is (pos n) (pos (j + 1 + 1)) Less (pos_less n (j + 1 + 1) (omega (arith, same)))))) in
    omega (arith, same, within, top)

-- ---- the texts of a table are the same wherever it stands

same_but_tree : (table : of_club.Table) (tree : ℕ) → record (standing table) { tree = tree } ≡ made_as table tree
same_but_tree Meta tree = refl
same_but_tree _ tree = refl

pub moved_to : {table : Table} (which : of_club.Table) → table ≡ standing which → (tree : ℕ)
    → record table { tree = tree } ≡ made_as which tree
moved_to which is tree = ap (λ (t : Table). record t { tree = tree }) is ∙ same_but_tree which tree

pub standing_alone : (table : of_club.Table) → HasTableAt club_schema table
standing_alone table = all_has (HasTableAt club_schema) in_order table (alone_takes V3).club (in_all table)

-- a table of the club has the rows of the club
pub stored_here : (version : Version) (table : of_club.Table) → IsTrue (has_table version table) → (content : Content)
    (s : State) → HasRowsIn version content s → Stores (standing table) (club_trees s.now) content
stored_here version table there content s k =
    all_has (λ t. Stores t (club_trees s.now) content) (schema_of version).tables (standing table)
    (rows_stored version content s k)
    (subst (λ l. Has l (standing table)) (tables_are version)
    (has_map standing (tables_of version) table (among_tables version table there)))

-- the rows that a text finds of a table where it stands are those of the club
found_here : (version : Version) (table : of_club.Table) (has : IsTrue (has_table version table)) (content : Content)
    (old new : State) (k : HasRowsIn version content old) (place : ℕ)
    (key : List ℕ) (wanted params given : Row) (text sql : List ℕ) (cmp : Row → Row → Ordering)
    → Finds k.schema (made_as table (rows_standing version content old k table has).0.tree) place key wanted params text
    cmp → sql ≡ text → given ≡ params → Survives old new (CommitsShowing sql given old) → HasCleanDisk new
    → (rows : List Row) → Shown sql given old new rows
    → AreThose key wanted (content (standing table).tree) rows × IsSorted cmp rows
found_here version table has content old new k place key wanted params given text sql cmp by is same survives clean rows
    shown =
    let (stands, are) = rows_standing version content old k table has in
    let it = finds k.schema (made_as table stands.tree) place key wanted params text cmp by old new rows
    (subst₂ (λ s p. Survives old new (CommitsShowing s p old)) is same survives) clean
    (subst₂ (λ s p. Shown s p old new rows) is same shown) k.whole k.exactly in (
      subst (λ l. AreThose key wanted l rows)
          (ap k.whole (tree_is table stands.tree) ∙ are ∙ ap content (sym (tree_is table (tree_of table)))) it.0,
      it.1,
    )

-- ---- a question for the rows that have the wanted values in the columns of a key

module _ {X : Type 0} {table : of_club.Table} {key : List ℕ} {wanted params given : Row}
    (asks : AsksAnywhere table key wanted params) (same : given ≡ params) (old new : State)
    (items : X → List Row) (r : Result X Error) where
  abbrev text : List ℕ
  text = question_text (standing table) key

  asked : (tree : ℕ) → text ≡ question_text (made_as table tree) key
  asked tree = ap (λ t. question_text t key) (same_but_tree table tree)

  pub question_reads : (old.in_transaction ≡ false → new.in_transaction ≡ false)
      → Survives old new (CommitsShowing text given old)
      → (HasCleanDisk new → IfOk r (λ x. Shown text given old new (items x)))
      → (HasCleanDisk new → IfErr r (FailsToQuery text given old new)) → Reads (is_ok r) old new
  question_reads =
      let alone = standing_alone table in
      select_reads (asks club_schema alone).is_select text (asked alone.tree) given old new items r

  pub question_rows : (version : Version) → IsTrue (has_table version table) → Survives old new (CommitsShowing text given old) → HasCleanDisk new
      → IfOk r (λ x. Shown text given old new (items x))
      → IfOk r (λ x. (content : Content) → HasRowsIn version content old
      → AreThose key wanted (content (standing table).tree) (items x))
  question_rows version there survives clean ok =
      IfOk-weaker r _ _ (λ x shown content k.
      let stands = (rows_standing version content old k table there).0 in
      (found_here version table there content old new k stands.place key wanted params given _ text (λ x y. Equal)
      (asks k.schema stands).finds (asked stands.tree) same survives clean (items x) shown).0) ok

-- ---- a question for the rows that have the wanted value in a column

module _ {X : Type 0} {table : of_club.Table} {width at : ℕ} {wanted params given : Row}
    (looks_up : LooksUpAnywhere table width at wanted params) (same : given ≡ params) (old new : State)
    (items : X → List Row) (r : Result X Error) where
  abbrev lookup_text : List ℕ
  lookup_text = by_column_text (standing table) at

  looked_up : (tree : ℕ) → lookup_text ≡ by_column_text (made_as table tree) at
  looked_up tree = ap (λ t. by_column_text t at) (same_but_tree table tree)

  pub lookup_reads : (old.in_transaction ≡ false → new.in_transaction ≡ false)
      → Survives old new (CommitsShowing lookup_text given old)
      → (HasCleanDisk new → IfOk r (λ x. Shown lookup_text given old new (items x)))
      → (HasCleanDisk new → IfErr r (FailsToQuery lookup_text given old new)) → Reads (is_ok r) old new
  lookup_reads =
      let alone = standing_alone table in
      select_reads (looks_up club_schema alone).is_select lookup_text (looked_up alone.tree) given old new items r

  pub lookup_rows : (version : Version) → IsTrue (has_table version table) → Survives old new (CommitsShowing lookup_text given old) → HasCleanDisk new
      → IfOk r (λ x. Shown lookup_text given old new (items x))
      → IfOk r (λ x. (content : Content) → HasRowsIn version content old
      → AreThose (at ∷ []) wanted (content (standing table).tree) (items x) × IsSorted (by_columns width) (items x))
  lookup_rows version there survives clean ok =
      IfOk-weaker r _ _ (λ x shown content k.
      let stands = (rows_standing version content old k table there).0 in
      found_here version table there content old new k stands.place (at ∷ []) wanted params given _ lookup_text (by_columns width)
      (looks_up k.schema stands).finds (looked_up stands.tree) same survives clean (items x) shown) ok

-- a call that failed for another cause than the types of its rows
pub failed_read : (e : ReadFault) (old new : State) → e ≢ WrongType → Reads false old new
    → Reads (was_read {T = ℕ} (Err e)) old new
failed_read WrongType old new other reads = absurd (other refl)
failed_read _ old new other reads = reads

-- two lists of the rows of one table
moved : (table : Table) (db : Trees) (xs ys : List Row) → Keeps table db xs → Keeps table db ys → (z : Row)
    → Has xs z → Has ys z
moved table db xs ys one two z h = let r = one.stored z h in subst (Has ys) r.2 (two.only r.0 r.1)

-- ---- what the texts of a table tell, wherever it stands

module _ {which : of_club.Table} {table : Table} {width : ℕ} (is_table : table ≡ standing which)
    (read : (schema : Schema) (stands : HasTableAt schema which) → AreShownBy schema (made_as which stands.tree) width)
    (old new : State) where
  alike : (tree : ℕ) (r : Row) → cells (made_as which tree) r ≡ cells table r
  alike tree r = cells_are which tree r ∙ ap (λ t. cells t r) (sym is_table)

  -- where its rows stand
  module _ (stands : HasTableAt old.now.schema which) where
    abbrev there : Table
    there = made_as which stands.tree

    abbrev shows : AreShownBy old.now.schema there width
    shows = read old.now.schema stands

    stored_rows : old.now.trees there.tree ≡ club_trees old.now table.tree
    stored_rows =
        trees_here old.now.schema old.now.trees which stands
        ∙ ap (λ (t : Table). club_trees old.now t.tree) (sym is_table)

    pub all_told : {sql : List ℕ} → sql ≡ all_text table → (rows : List Row) → Shown sql [] old new rows
        → ReturnsRows table width rows (club_trees old.now) old new
    all_told text rows shown =
        subst (λ t. ReturnsRows t width rows (club_trees old.now) old new) (sym is_table)
        (told_here which old new stands rows width
        (tells old.now.schema there width (all_text there) shows.columns shows.rows shows.whole old new rows refl
        (subst (λ s. Shown s [] old new rows) (text ∙ ap all_text (moved_to which is_table stands.tree)) shown)))

    pub ids_told : {sql : List ℕ} → sql ≡ ids_text table → (rows : List Row) → Shown sql [] old new rows
        → TellsIds (club_trees old.now table.tree) rows old new
    ids_told text rows shown =
        subst (λ l. TellsIds l rows old new) stored_rows
        (tells_ids old.now.schema there.tree (ids_text there) shows.firsts shows.numbers
        (λ r. ap (λ x. column x 0) (shows.first r)) old new rows refl
        (subst (λ s. Shown s [] old new rows) (text ∙ ap ids_text (moved_to which is_table stands.tree)) shown))

    -- of the rowids that are shown there are as many as rows
    pub ids_number : {sql : List ℕ} → sql ≡ ids_text table → (rows : List Row) → Shown sql [] old new rows
        → length rows ≡ length (club_trees old.now table.tree)
    ids_number text rows shown =
        let by = shows.numbers in
        let reads = reads_as (ids_text there) [] old new old.now.schema refl _ by.command by.plain by.unlisted rows
        (subst (λ s. Shown s [] old new rows) (text ∙ ap ids_text (moved_to which is_table stands.tree)) shown) in
        let once = each_shown old.now [] there.tree shows.firsts by.order by.names rows by.overlaid reads in
        length_permutation _ rows once
        ∙ same_length (λ r. eval_all shows.firsts ([] ∷ r ∷ [])) (old.now.trees there.tree) ∙ ap length stored_rows

    -- the rows that begin with a number, each of them once
    pub group_told : {sql : List ℕ} → sql ≡ by_first_text table → (n : ℤ) (params : Row) → params ≡ Int n ∷ []
        → (rows : List Row) → Shown sql params old new rows → AreReadOf table width n rows old new
    group_told text n params given rows shown =
        let wanted : Row = Int n ∷ [] in
        let by = shows.some n in
        let here = subst₂ (λ s p. Shown s p old new rows)
        (text ∙ ap by_first_text (moved_to which is_table stands.tree)) given shown in
        let reads = reads_as (by_first_text there) wanted old new old.now.schema refl _ by.command by.plain by.unlisted
        rows here in
        record {
          once = subst (λ l. IsPermutation (beginning_with n l) rows)
              ((λ i. map (λ r. alike stands.tree r i) (old.now.trees there.tree)) ∙ ap (map (cells table)) stored_rows)
              (each_found old.now.schema there shows.place (0 ∷ []) wanted wanted (by_first_text there)
              (by_others width) by old.now rows reads);
          sorted = sorted_rows old.now wanted there.tree by.filter by.project by.order by.names rows (by_others width)
              by.overlaid by.by reads;
          same = select_unchanged (by_first_text there) shows.group_is wanted old new rows here;
        }

  -- the rows of a content
  module _ {since : Version} (has : IsTrue (has_table since which)) (content : Content)
      (k : HasRowsIn since content old) where
    stored : Stores table (club_trees old.now) content
    stored = subst (λ t. Stores t (club_trees old.now) content) (sym is_table)
        (stored_here since which has content old k)

    -- the table stands in the schema that the connection has
    stands_now : HasTableAt old.now.schema which
    stands_now = subst (λ s. HasTableAt s which) (sym k.exactly.now.schema)
        (rows_standing since content old k which has).0

    pub some_found : {sql : List ℕ} → sql ≡ by_first_text table → (n : ℤ) (params : Row) → params ≡ Int n ∷ []
        → Survives old new (CommitsShowing sql params old) → HasCleanDisk new
        → (rows : List Row) → Shown sql params old new rows
        → AreThose (0 ∷ []) (Int n ∷ []) (content table.tree) rows × IsSorted (by_others width) rows
    some_found text n params given survives clean rows shown =
        let stands = (rows_standing since content old k which has).0 in
        let is = read k.schema stands in
        subst
        (λ (t : Table). AreThose (0 ∷ []) (Int n ∷ []) (content t.tree) rows × IsSorted (by_others width) rows)
        (sym is_table)
        (found_here since which has content old new k is.place (0 ∷ []) (Int n ∷ []) (Int n ∷ []) params _ _ (by_others width)
        (is.some n) (text ∙ ap by_first_text (moved_to which is_table stands.tree)) given survives clean rows shown)

    -- the rows by their first column, the greatest first
    falling_found : {sql : List ℕ} → sql ≡ last_text table → Survives old new (CommitsShowing sql [] old)
        → HasCleanDisk new → (rows : List Row) → Shown sql [] old new rows
        → AreThose [] [] (content table.tree) rows × IsSorted by_first_falling rows
    falling_found text survives clean rows shown =
        let stands = (rows_standing since content old k which has).0 in
        let is = read k.schema stands in
        subst (λ (t : Table). AreThose [] [] (content t.tree) rows × IsSorted by_first_falling rows) (sym is_table)
        (found_here since which has content old new k is.place [] [] [] [] _ _ by_first_falling is.last
        (text ∙ ap last_text (moved_to which is_table stands.tree)) refl survives clean rows shown)

    -- the last row, where one is given
    pub last_found : {sql : List ℕ} → sql ≡ last_text table → Survives old new (CommitsShowing sql [] old)
        → HasCleanDisk new → (row : Row) → QueriesRow sql [] old new (Ok row) → IsLast (content table.tree) (Some row)
    last_found {sql = sql} text survives clean row given =
        let finds = (read old.now.schema stands_now).last in
        let known = text ∙ ap last_text (moved_to which is_table stands_now.tree) in
        let whole = row_of_whole finds [] old new refl row
        (subst (λ s. QueriesRow s [] old new (Ok row)) known given) in
        let it = falling_found text survives clean (row ∷ whole.0)
        (subst (λ s. Shown s [] old new (row ∷ whole.0)) (sym known) whole.1) in (
          (it.0.sound row (inl refl)).0,
          λ x there. not_above row whole.0 x it.1 (it.0.complete x there refl),
        )

    -- and where none is
    pub none_found : {sql : List ℕ} → sql ≡ last_text table → Survives old new (CommitsShowing sql [] old)
        → HasCleanDisk new → Shown sql [] old new [] → IsLast (content table.tree) None
    none_found text survives clean shown =
        let those = (falling_found text survives clean [] shown).0 in
        empty (content table.tree) (λ x there. those.complete x there refl)

    -- a table is shown with the rows that it has
    pub same_rows : (shown : List Row)
        → (HasTableAt old.now.schema which → ReturnsRows table width shown (club_trees old.now) old new)
        → HaveSame shown (content table.tree)
    same_rows shown told =
        let keeps = (told stands_now).keeps in
        record {
          there = moved table (club_trees old.now) shown (content table.tree) keeps stored.rows;
          back = moved table (club_trees old.now) (content table.tree) shown stored.rows keeps;
        }

    -- where ids are places, a table is shown as the list that it is
    pub told_rows : (width ≡ 1) × ((r : Row) → column (cells table r) 0 ≡ rowid r) → (shown : List Row)
        → (HasTableAt old.now.schema which → ReturnsRows table width shown (club_trees old.now) old new)
        → BeginWithPlaces (content table.tree) → shown ≡ content table.tree
    told_rows (one_column, id) shown told places =
        let it = told stands_now in
        let same = same_rows shown told in
        one_list shown (content table.tree)
        (in_order_by shown (subst (λ w. IsSorted (by_columns w) shown) one_column it.sorted)
        (ids_of table (club_trees old.now table.tree) shown id it.once stored.apart))
        (places_rise (content table.tree) places) same.there same.back
