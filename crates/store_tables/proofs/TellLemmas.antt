-- What a SELECT of all rows tells of whatever database, and what a SELECT by a key tells of a content.
use Rattle.std.proofs.Common.{◌≡◌, ◌≢◌, ℕ, true, List, [], ◌∷◌, map, Ok, Err, Result, refl, sym, ap, subst, subst₂, ◌∙◌}
use Rattle.std.proofs.Common.{inl, inr, IsTrue, Equal, Option, Some, slice_get, All, get_or, Ordering, IsSorted}
use Rattle.std.proofs.Common.{IsPermutation}
use Rattle.std.specs.List.{AllByRecursion}
use Rattle.std.specs.Cmp.{tied_back, tied_itself}
use Rattle.std.proofs.lemmas.List.Sorted.{IsPermutation-sym}
use Rattle.sqlite_value.specs.Order.{value_cmp}
use Rattle.sqlite_value.proofs.OrderLemmas.{value_cmp_total}
use Rattle.store_tables.specs.Sql.{Row, column, Trees, Table, Database, understood, State, Shown, Survives}
use Rattle.store_tables.specs.Sql.{HasCleanDisk, IsUnchanged, rowid, Has, Schema}
use Rattle.sqlite.specs.Command.{Command}
use Rattle.sqlite.specs.Command.TheVariants.{Select, Rows}
use Rattle.sqlite.specs.Clock.{timed}
use Rattle.sqlite.specs.Effect.{Reads, RefusesToRead}
use Rattle.sqlite.specs.State.{FailsToQuery, FailsToShow, IsNotRun, IsNoStatement, store_error, CommitsShowing}
use Rattle.sqlite.specs.State.{QueriesRow}
use Rattle.sqlite.specs.declared.error.Error.{Error}
use Rattle.sqlite.specs.declared.error.Error.TheVariants.{QueryReturnedNoRows}
use Rattle.sqlite.proofs.Callers.{IsPlain, reads_as, begins_shown, command_of, EndsIn}
use Rattle.sqlite_trees.specs.View.{is_int}
use Rattle.sqlite_trees.specs.declared.error.StoreError.{StoreError}
use Rattle.sqlite_trees.specs.declared.error.StoreError.TheVariants as failure
use Rattle.sqlite_trees.proofs.ListLemmas.{all-permutation, ascending_from_map, all_from_map, ascending-map, all-map}
use Rattle.sqlite_trees.proofs.ListLemmas.{ascending_weaker, all_weaker}
use Rattle.sqlite_resolve.specs.declared.compiled.Compiled.{Compiled}
use Rattle.sqlite_resolve.specs.declared.error.CompileError.{CompileError}
use Rattle.sqlite_sql.specs.Term.{Term, eval_all}
use Rattle.sqlite_rules.proofs.ListLemmas.{all_has, has_got}
use Rattle.store_tables.specs.Content.{cells, same_key, Keeps, AreApart}
use Rattle.store_tables.specs.Contents.{Content, Stores, AreStored, IsExactly}
use Rattle.store_tables.specs.internal.Contents.{AreThose}
use Rattle.store_tables.specs.internal.Put.{selects}
use Rattle.store_tables.specs.internal.Reading.{AreIds, by_columns, ReturnsRows, TellsIds, IsNoInput}
use Rattle.store_tables.specs.internal.Queries.{Selects, Finds, IsSelect}
use Rattle.store_tables.proofs.ApartLemmas.{pairs_turned, each_shown}
use Rattle.store_tables.proofs.OrderLemmas.{sorted_rows, has_index}
use Rattle.store_tables.proofs.ReadLemmas.{found_rows, shown_rows, shown_unchanged, may_as_before}
use Rattle.store_tables.proofs.ReadLemmas.{unchanged_exactly}
use Rattle.store_tables.proofs.QueryLemmas.{select_plain}

module _ (schema : Schema) (tree count : ℕ) (sql : List ℕ) (project : List Term)
    (is : Selects schema tree count sql project) (old new : State) (rows : List Row) (has : old.now.schema ≡ schema)
    (h : Shown sql [] old new rows) where
  read_by : Reads (Select (record { lets = []; body = selects tree [] project is.order }) is.names) old.now [] rows
  read_by = reads_as sql [] old new schema has _ is.command is.plain is.unlisted rows h

  kept_by : IsUnchanged old new
  kept_by = shown_unchanged sql [] old new rows (subst (λ s. IsPlain (understood s sql)) (sym has) is.plain) h

  sorted_by : IsSorted (by_columns count) rows
  sorted_by =
      sorted_rows old.now [] tree [] project is.order is.names rows (by_columns count) is.overlaid is.by read_by

  each_read : IsPermutation (map (λ r. eval_all project ([] ∷ r ∷ [])) (old.now.trees tree)) rows
  each_read = each_shown old.now [] tree project is.order is.names rows is.overlaid read_by

-- Rows that are shown in some way, with the rowid first: they are apart if and only if those of the table are.
module _ (show : Row → Row) (stored rows : List Row) (first : (r : Row) → column (show r) 0 ≡ rowid r)
    (once : IsPermutation (map show stored) rows) where
  abbrev Differ : Row → Row → Type 0
  Differ a b = value_cmp (column a 0) (column b 0) ≢ Equal

  abbrev IsApart : Row → Row → Type 0
  IsApart r s = value_cmp (rowid r) (rowid s) ≢ Equal

  abbrev HasInt : Row → Type 0
  HasInt x = IsTrue (is_int (column x 0))

  abbrev HasRowid : Row → Type 0
  HasRowid r = IsTrue (is_int (rowid r))

  turned : (a b : Row) → Differ a b → Differ b a
  turned a b differ same = differ (tied_back value_cmp_total (column b 0) (column a 0) same)

  back : IsPermutation rows (map show stored)
  back = IsPermutation-sym _ _ once

  ids_shown : AreApart stored → AreIds rows
  ids_shown are = record {
    apart = pairs_turned Differ turned (map show stored) rows once (ascending-map Differ show stored
        (ascending_weaker IsApart (λ r s. Differ (show r) (show s))
        (λ r s other same. other (subst₂ (λ x y. value_cmp x y ≡ Equal) (first r) (first s) same)) stored are.apart));
    ints = all-permutation HasInt (map show stored) rows once (all-map HasInt show stored
        (all_weaker HasRowid (λ r. HasInt (show r)) (λ r int. subst (λ v. IsTrue (is_int v)) (sym (first r)) int)
        stored are.ints));
  }

  apart_shown : AreIds rows → AreApart stored
  apart_shown ids = record {
    apart = ascending_weaker (λ r s. Differ (show r) (show s)) IsApart
        (λ r s other same. other (subst₂ (λ x y. value_cmp x y ≡ Equal) (sym (first r)) (sym (first s)) same)) stored
        (ascending_from_map Differ show stored (pairs_turned Differ turned rows (map show stored) back ids.apart));
    ints = all_weaker (λ r. HasInt (show r)) HasRowid (λ r int. subst (λ v. IsTrue (is_int v)) (first r) int) stored
        (all_from_map HasInt show stored (all-permutation HasInt rows (map show stored) back ids.ints));
  }

-- where every column is selected, in the order of the key
pub tells : (schema : Schema) (table : Table) (count : ℕ) (sql : List ℕ) (project : List Term)
    → Selects schema table.tree count sql project → ((r : Row) → eval_all project ([] ∷ r ∷ []) ≡ cells table r)
    → (old new : State) (rows : List Row) → old.now.schema ≡ schema → Shown sql [] old new rows
    → ReturnsRows table count rows old.now.trees old new
tells schema table count sql project is shows old new rows has h = record {
  keeps = found_rows table project is.order is.names is.overlaid shows old.now rows
      (read_by schema table.tree count sql project is old new rows has h);
  once = subst (λ shown. IsPermutation shown rows)
      (λ i. map (λ r. shows r i) (old.now.trees table.tree))
      (each_read schema table.tree count sql project is old new rows has h);
  sorted = sorted_by schema table.tree count sql project is old new rows has h;
  same = kept_by schema table.tree count sql project is old new rows has h;
}

-- where the rowid is selected first, and orders the rows
pub tells_ids : (schema : Schema) (tree : ℕ) (sql : List ℕ) (project : List Term) → Selects schema tree 1 sql project
    → ((r : Row) → column (eval_all project ([] ∷ r ∷ [])) 0 ≡ rowid r)
    → (old new : State) (rows : List Row) → old.now.schema ≡ schema → Shown sql [] old new rows
    → TellsIds (old.now.trees tree) rows old new
tells_ids schema tree sql project is first old new rows has h =
    let show = λ (r : Row). eval_all project ([] ∷ r ∷ []) in
    let once = each_read schema tree 1 sql project is old new rows has h in
    record {
      apart = apart_shown show (old.now.trees tree) rows first once;
      ids = ids_shown show (old.now.trees tree) rows first once;
      sorted = sorted_by schema tree 1 sql project is old new rows has h;
      same = kept_by schema tree 1 sql project is old new rows has h;
    }

-- the table at a place of the schema is stored
pub stored_at : (schema : Schema) (table : Table) (place : ℕ) → slice_get schema.tables place ≡ Some table
    → (db : Trees) (content : Content) → AreStored schema db content → Stores table db content
stored_at schema table place at db content all =
    all_has (λ t. Stores t db content) schema.tables table all (has_got schema.tables place table at)

pub finds : (schema : Schema) (table : Table) (place : ℕ) (key : List ℕ) (wanted params : Row) (sql : List ℕ)
    (cmp : Row → Row → Ordering) → Finds schema table place key wanted params sql cmp
    → (old new : State) (rows : List Row) → Survives old new (CommitsShowing sql params old) → HasCleanDisk new
    → Shown sql params old new rows
    → (content : Content) → IsExactly schema content old → AreThose key wanted (content table.tree) rows
    × IsSorted cmp rows × IsExactly schema content new
finds schema table place key wanted params sql cmp is old new rows s clean h content k =
    let reads = reads_as sql params old new schema k.now.schema _ is.command is.plain is.unlisted rows h in
    let are = shown_rows old.now params table.tree is.filter is.project is.order is.overlaid is.names rows reads in
    let kept : Stores table old.now.trees content =
    stored_at schema table place is.at old.now.trees content k.now.tables in (
      record {
        sound = λ x there.
            let it = are.sound x there in
            let same : cells table it.0 ≡ x = sym (it.3 ∙ is.shows it.0) in (
              subst (λ y. Has (content table.tree) y) same (kept.rows.only it.0 it.1),
              subst (λ y. same_key key y wanted ≡ true) same (sym (is.picks it.0) ∙ it.2),
            );
        complete = λ x there same.
            let it = kept.rows.stored x there in
            subst (λ y. Has rows y) (is.shows it.0 ∙ it.2)
            (are.complete it.0 it.1 (is.picks it.0 ∙ subst (λ y. same_key key y wanted ≡ true) (sym it.2) same));
      },
      sorted_rows old.now params table.tree is.filter is.project is.order is.names rows cmp is.overlaid is.by reads,
      unchanged_exactly schema content old new k
          (shown_unchanged sql params old new rows (subst (λ d. IsPlain (understood d sql)) (sym k.now.schema) is.plain)
          h) (may_as_before schema sql params old new is.plain s clean content k),
    )

-- ---- which error

no_store : (cause : StoreError) → IsNoInput (store_error cause)
no_store failure.OutOfMemory why e = cc
no_store _ why e = cc

no_err : (r : Result Compiled CompileError) (fault : CompileError) → IsPlain r → r ≡ Err fault → ⊥
no_err (Ok c) fault plain e = let x = e in cc
no_err (Err why) fault plain e = plain

no_read : (limit : Option ℕ) (command : Command) (db : Database) (params : Row) (e : Error)
    → RefusesToRead limit command db params e → IsNoInput e
no_read limit (Select q names) db params e (inl h) why is = let x = sym h.0 ∙ is in cc
no_read limit (Select q names) db params e (inr (inl h)) why is = let x = sym h.0 ∙ is in cc
no_read limit (Select q names) db params e (inr (inr h)) why is = let x = sym h.0 ∙ is in cc
no_read limit (Rows values width names) db params e h why is = let x = sym h.0 ∙ is in cc
no_read limit _ db params e h why is = let x = sym h ∙ is in cc

no_statement : (s : State) (sql : List ℕ) (params : Row) (e : Error) → IsPlain (understood s.now.schema sql)
    → IsNoStatement s sql params e → IsNoInput e
no_statement s sql params e plain (inl h) why is = absurd (no_err _ h.0 plain h.1)
no_statement s sql params e plain (inr h) why is = elim h.2 [
  | inl many ↦ (let x = sym many.1 ∙ is in cc)
  | inr (inl given) ↦ (let x = sym given.1 ∙ is in cc)
  | inr (inr clock) ↦ (let x = sym clock.1 ∙ is in cc)
]

-- A query whose text is understood fails for another reason.
pub no_input : (schema : Schema) (sql : List ℕ) (params : Row) (old new : State) (e : Error)
    → IsPlain (understood schema sql) → old.now.schema ≡ schema → FailsToQuery sql params old new e → IsNoInput e
unfolding FailsToQuery IsNotRun
no_input schema sql params old new e plain has (inl (inl h)) =
    no_statement old sql params e (subst (λ s. IsPlain (understood s sql)) (sym has) plain) h.0
no_input schema sql params old new e plain has (inl (inr h)) = λ why is. no_store h.0 why (sym h.1 ∙ is)
no_input schema sql params old new e plain has (inr h) =
    let bare = subst (λ s. IsPlain (understood s sql)) (sym has) plain in
    let none = (subst IsPlain h.1.is bare).0 in
    let it = subst (FailsToShow old new sql h.0 (timed params h.0.formats h.1.now) e) none h.2 in
    no_read old.step_limit h.0.command it.0 (timed params h.0.formats h.1.now) e it.2

-- ---- the first row of an answer

no_row_read : (limit : Option ℕ) (command : Command) (db : Database) (params : Row) (e : Error)
    → RefusesToRead limit command db params e → e ≢ QueryReturnedNoRows
no_row_read limit (Select q names) db params e (inl h) is = let x = sym h.0 ∙ is in cc
no_row_read limit (Select q names) db params e (inr (inl h)) is = let x = sym h.0 ∙ is in cc
no_row_read limit (Select q names) db params e (inr (inr h)) is = let x = sym h.0 ∙ is in cc
no_row_read limit (Rows values width names) db params e h is = let x = sym h.0 ∙ is in cc
no_row_read limit _ db params e h is = let x = sym h ∙ is in cc

no_row_stated : (s : State) (sql : List ℕ) (params : Row) (e : Error) → IsNoStatement s sql params e
    → e ≢ QueryReturnedNoRows
no_row_stated s sql params e (inl h) is = let x = sym h.2 ∙ is in cc
no_row_stated s sql params e (inr h) is = elim h.2 [
  | inl many ↦ (let x = sym many.1 ∙ is in cc)
  | inr (inl given) ↦ (let x = sym given.1 ∙ is in cc)
  | inr (inr clock) ↦ (let x = sym clock.1 ∙ is in cc)
]

no_row_stored : (cause : StoreError) → store_error cause ≢ QueryReturnedNoRows
no_row_stored failure.OutOfMemory e = cc
no_row_stored _ e = cc

-- That no row was found is no failure of a SELECT.
pub no_missing : (sql : List ℕ) → IsSelect sql → (params : Row) (old new : State) (e : Error)
    → FailsToQuery sql params old new e → e ≢ QueryReturnedNoRows
unfolding FailsToQuery IsNotRun
no_missing sql select params old new e (inl (inl h)) = no_row_stated old sql params e h.0
no_missing sql select params old new e (inl (inr h)) = λ is. no_row_stored h.0 (sym h.1 ∙ is)
no_missing sql select params old new e (inr h) =
    let it = subst (FailsToShow old new sql h.0 (timed params h.0.formats h.1.now) e)
    (select_plain old.now.schema sql h.0 select h.1.is) h.2 in
    no_row_read old.step_limit h.0.command it.0 (timed params h.0.formats h.1.now) e it.2

first_is : (rows : List Row) (row : Row) (sql : List ℕ) (params : Row) (old new : State)
    → slice_get rows 0 ≡ Some row → Shown sql params old new rows
    → (tail : List Row) × Shown sql params old new (row ∷ tail)
first_is [] row sql params old new is shown = absurd cc
first_is (x ∷ tail) row sql params old new is shown =
    let same : x ≡ row = cc in
    (tail, subst (λ r. Shown sql params old new (r ∷ tail)) same shown)

-- The row that a SELECT of one table gives alone is the first of a whole answer.
pub row_of_whole : {schema : Schema} {table : Table} {place : ℕ} {key : List ℕ} {wanted params : Row} {sql : List ℕ}
    {cmp : Row → Row → Ordering} → Finds schema table place key wanted params sql cmp
    → (given : Row) (old new : State) → old.now.schema ≡ schema → (row : Row) → QueriesRow sql given old new (Ok row)
    → (tail : List Row) × Shown sql given old new (row ∷ tail)
unfolding QueriesRow
row_of_whole {sql = sql} finds given old new has row (inl begun) =
    begins_shown sql given old new (row ∷ []) begun.0 begun.1 (λ c db it source.
    subst (λ k. EndsIn k db (timed given c.formats it.now))
    (sym (ap command_of (sym it.is ∙ ap (λ s. understood s sql) has) ∙ finds.command)) tt)
row_of_whole {sql = sql} finds given old new has row (inr it) = first_is it.0 row sql given old new it.2 it.1

-- ---- two lists of the rows of one table

-- what holds of each row of the one list holds of each of the other
pub all_alike : (table : Table) (db : Trees) (P : Row → Type 0) (shown rows : List Row) → Keeps table db shown
    → Keeps table db rows → AllByRecursion P rows → All P shown
all_alike table db P shown rows one two all i d within =
    let there = one.stored (get_or shown i d) (has_index shown i d within) in
    subst P there.2 (all_has P rows (cells table there.0) all (two.only there.0 there.1))

only_row : (table : Table) (db : Trees) (shown : List Row) (x : Row) → Keeps table db shown → Keeps table db (x ∷ [])
    → (y : Row) → Has shown y → y ≡ x
only_row table db shown x one two y there = let r = one.stored y there in
    elim (two.only r.0 r.1) [ inl same ↦ sym r.2 ∙ same | inr none ↦ absurd none ]

-- where the table has one row, one is shown
pub one_shown : (table : Table) (db : Trees) (shown : List Row) (x : Row) → Keeps table db shown
    → Keeps table db (x ∷ []) → AreIds shown → shown ≡ x ∷ []
one_shown table db [] x one two ids = let it = two.stored x (inl refl) in absurd (one.only it.0 it.1)
one_shown table db (y ∷ []) x one two ids = ap (λ r. r ∷ []) (only_row table db (y ∷ []) x one two y (inl refl))
one_shown table db (y ∷ z ∷ rest) x one two ids =
    let a = only_row table db (y ∷ z ∷ rest) x one two y (inl refl) in
    let b = only_row table db (y ∷ z ∷ rest) x one two z (inr (inl refl)) in
    absurd (ids.apart.0.0 (rw (a, b) (tied_itself value_cmp_total (column x 0))))

-- the rows that are shown begin with the rowids, where these are shown first
pub ids_of : (table : Table) (stored rows : List Row) → ((r : Row) → column (cells table r) 0 ≡ rowid r)
    → IsPermutation (map (cells table) stored) rows → AreApart stored → AreIds rows
ids_of table = ids_shown (cells table)

pub apart_of : (table : Table) (stored rows : List Row) → ((r : Row) → column (cells table r) 0 ≡ rowid r)
    → IsPermutation (map (cells table) stored) rows → AreIds rows → AreApart stored
apart_of table = apart_shown (cells table)
