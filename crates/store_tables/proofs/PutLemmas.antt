-- What a text that puts a row makes of the trees.
use Rattle.std.proofs.Common.{◌≡◌, ◌≢◌, ◌⊎◌, ℕ, ℤ, Bool, true, false, cond, not, List, [], ◌∷◌, ◌++◌, map, flat_map}
use Rattle.std.proofs.Common.{find, Some, None, Option, Ok, Equal, refl, sym, ap, subst, ◌∙◌, inl, inr, true≢false}
use Rattle.std.proofs.Common.{unwrap_or, subst₂, MatchBool, if◌then◌else◌, IsPermutation, is_eq, is_lt, int_cmp}
use Rattle.std.specs.List.{list_all, AllByRecursion}
use Rattle.std.proofs.lemmas.Bool.{false_from_ne_true, and_parts, cases_Bool, not-true}
use Rattle.sqlite_value.specs.declared.value.Value.TheVariants.{Null, Int}
use Rattle.sqlite_value.specs.Order.{value_cmp}
use Rattle.store_tables.specs.Sql.{Row, column, Trees, rowid, Schema, Has, Table}
use Rattle.sqlite_trees.specs.Tree.{without_rowid, has_rowid, IsAscending}
use Rattle.sqlite_sql.specs.Term.{Term, eval_all, holds}
use Rattle.std.specs.Cmp.{tied_itself, tied_back}
use Rattle.sqlite_rules.proofs.RuleLemmas.{Turns}
use Rattle.sqlite_value.proofs.OrderLemmas.{value_cmp_total}
use Rattle.sqlite.specs.Collation.TheVariants.{Binary}
use Rattle.store_tables.proofs.KeyLemmas.{equal_cmp, equal_from, tied}
use Rattle.sqlite_schema.specs.declared.schema.Constraint.TheVariants.{Unique}
use Rattle.sqlite_sql.specs.Query.{IsAnswer, Output, output, page}
use Rattle.sqlite_sql.specs.Program.{overlay}
use Rattle.sqlite_schema.specs.declared.command.Source.{Source}
use Rattle.sqlite_schema.specs.declared.command.Conflict.TheVariants.{Abort}
use Rattle.sqlite_schema.specs.declared.schema.Keys.TheVariants.{Enforced}
use Rattle.sqlite_schema.specs.Rules.{equal}
use Rattle.sqlite_rules.specs.Keys.{conflicts}
use Rattle.sqlite_rules.specs.Edit.{Edit, edit_of, Applies, taken_by, with_rowid, row_at, left_by, id_in}
use Rattle.sqlite_rules.specs.Cast.{cast_row}
use Rattle.sqlite_rules.specs.Calls.{ids_of}
use Rattle.sqlite_rules.specs.declared.error.Refusal.{Refusal}
use Rattle.sqlite_rules.specs.declared.error.Rowids.TheVariants.{Given, Chosen, Above}
use Rattle.sqlite_rules.specs.declared.error.Rowids.{Rowids}
use Rattle.sqlite_rules.proofs.TableLemmas.{int_is, put_all_has, put_all_keeps, put_all_adds, without_all_has}
use Rattle.sqlite_rules.proofs.ListLemmas.{all_has, has_filtered, has_kept}
use Rattle.sqlite.specs.Effect.{Answers}
use Rattle.sqlite.specs.Rows.{Task, Written, InsertsOr, Tries, Upserts, Puts, Clears, Judged, TriesEach, nothing}
use Rattle.sqlite.specs.Rows.{count_of, rowids_for, shown}
use Rattle.sqlite.proofs.Callers.{one_step, one_permutation}
use Rattle.store_tables.specs.Content.{cells, AreApart, same_key}
use Rattle.store_tables.specs.internal.Put.{picks, on_key, IsPut, HasPut}
use Rattle.store_tables.proofs.UpsertLemmas.{went, same_value, only_one, apart-put_row, apart-filter}

-- the row with a rowid is the one that is found by it
found_row : (rows : List Row) (m : ℤ) (r : Row) → IsAscending (λ a b. value_cmp (rowid a) (rowid b) ≢ Equal) rows
    → Has rows r → has_rowid m r ≡ true → r ≡ row_at rows m
found_row [] m r apart there h = absurd there
found_row (x ∷ rows) m r apart (inl same) h =
    let here : has_rowid m x ≡ true = ap (has_rowid m) (sym same) ∙ h in
    same ∙ sym (λ i. unwrap_or (if here i then Some x else find (has_rowid m) rows) [])
found_row (x ∷ rows) m r apart (inr later) h =
    let other : has_rowid m x ≡ false = false_from_ne_true _ (λ it.
    all_has _ rows r apart.0 later (value_cmp_total.congr (rowid x) (Int m) (rowid r) (tied _ it)
    ∙ tied_back value_cmp_total (rowid r) (Int m) (tied _ h))) in
    found_row rows m r apart.1 later h ∙ sym (λ i. unwrap_or (if other i then Some x else find (has_rowid m) rows) [])

-- what an edit does to the table, given that each row stays or goes
turns_by : (schema : Schema) (db next : Trees) (edit : Edit) → IsAscending (λ a b. a.tree ≡ b.tree → ⊥) schema.tables
    → Has schema.tables edit.table → Applies schema Enforced db edit next
    → ((r : Row) → Has (db edit.table.tree) r → Has (left_by db edit) r ⊎ Has (taken_by db edit) r)
    → Turns schema db next edit.table (left_by db edit) (taken_by db edit) edit.news
turns_by schema db next edit apart listed it split =
    let left = left_by db edit in
    record {
      apart = apart;
      listed = listed;
      others = λ t known. all_has (λ u. u.tree ≢ edit.table.tree → next u.tree ≡ db u.tree) schema.tables t it.tables
          known;
      from = λ r h. put_all_has edit.news left r (subst (λ l. Has l r) it.rows h);
      stays = λ r h. subst (λ l. Has l r) (sym it.rows) (put_all_keeps edit.news left r it.fresh h);
      added = λ r h. subst (λ l. Has l r) (sym it.rows) (put_all_adds edit.news left r it.fresh h);
      was = λ r h. without_all_has edit.gone (db edit.table.tree) r h;
      split = split;
    }

left_or_gone : (rows : List Row) → AreApart rows → (m : ℤ) (r : Row) → Has rows r → Has (without_rowid m rows) r
    ⊎ Has (row_at rows m ∷ []) r
left_or_gone rows t m r there = elim (cases_Bool (has_rowid m r)) [
  | inl it ↦ inr (inl (found_row rows m r t.apart there it))
  | inr other ↦ inl (has_kept (λ x. not (has_rowid m x)) rows r there (ap not other))
]

if_false : (b : Bool) (A B : Type 0) → b ≡ false → MatchBool b A B → B
if_false true A B p h = absurd (true≢false p)
if_false false A B p h = h

module _ (limit : Option ℕ) (schema : Schema) (table : Table) (params : Row) (key : List ℕ) (row : Row) (from : Source)
    (places : List ℕ) (base : ℕ) (project : List Term)
    (is : IsPut schema table key params row from places base project) where
  abbrev task : Task
  task = record { limit = limit; keys = Enforced; schema = schema; table = table; params = params }

  -- what is written: a new row, or one in place of the row with its key
  pub record PutsNew (db next : Trees) (n : ℤ) : Type 0 where
    pub free : (r : Row) → Has (db table.tree) r → same_key key (cells table r) row ≡ false
    pub applies : Applies schema Enforced db (edit_of db table [] Given 0 (is.stored n ∷ [])) next

  pub record Replaces (db next : Trees) (n : ℤ) : Type 0 where
    pub was : Row
    pub here : Has (db table.tree) was
    pub same : same_key key (cells table was) row ≡ true
    pub there : Row
    pub at : rowid there ≡ rowid was
    pub rows : List Row
    pub answers : Answers (record { schema = schema; trees = db })
        (record { lets = []; body = picks table.tree base project }) (params ++ rowid there ∷ shown table (is.stored n))
        rows
    pub applies : Applies schema Enforced db (edit_of db table (ids_of rows) Given 1 rows) next

  puts_in : (db : Trees) (n : ℤ) (w : Written) → Puts task (is.stored n) db (Ok w)
      → Applies schema Enforced db (edit_of db table [] Given 0 (is.stored n ∷ [])) w.trees
  puts_in db n w h =
      let on = went h in
      let trees : w.trees ≡ on.0 = ap (λ (x : Written). x.trees) (same_value on.2) in
      let edit : Edit = edit_of db table [] Given 0 (is.stored n ∷ []) in
      subst (Applies schema Enforced db edit) (sym trees)
      (one_step schema Enforced db on.0 edit (is.idle [] edit.news) on.1)

  clears : (db : Trees) (n : ℤ) (w : Written) (found : List Row) → Clears task Abort (is.stored n) db found (Ok w)
      → Puts task (is.stored n) db (Ok w)
  clears db n w [] h = h
  clears db n w (x ∷ more) h = h

  upserted : (db : Trees) (n : ℤ) (w : Written)
      → Upserts task Abort (is.stored n) db (on_key places table.tree base project) (Ok w) → PutsNew db w.trees n
      ⊎ Replaces db w.trees n
  upserted db n w ([], conflicts, h) = inl (record {
    free = λ r there. false_from_ne_true _ (λ same. conflicts.complete r there (is.meets r n ∙ same));
    applies = puts_in db n w (clears db n w h.0 h.2);
  })
  upserted db n w (there ∷ more, conflicts, h) =
      let met = conflicts.sound there (inl refl) in
      let on = went h in
      let next = went on.2 in
      let trees : w.trees ≡ next.0 = ap (λ (x : Written). x.trees) (same_value next.2) in
      inr (record {
        was = met.0;
        here = met.1;
        same = sym (is.meets met.0 n) ∙ met.2;
        there = there;
        at = ap rowid met.3;
        rows = on.0;
        answers = on.1;
        applies = let edit : Edit = edit_of db table (ids_of on.0) Given 1 on.0 in
            subst (Applies schema Enforced db edit) (sym trees)
            (one_step schema Enforced db next.0 edit (is.idle (taken_by db edit) edit.news) next.1);
      })

  judged : (db : Trees) (n : ℤ) (w : Written) (verdict : Option Refusal)
      → Judged task Abort (on_key places table.tree base project) (is.stored n) db verdict (Ok w)
      → Upserts task Abort (is.stored n) db (on_key places table.tree base project) (Ok w)
  judged db n w None h = h
  judged db n w (Some why) h = absurd (let e = h in cc)

  tried : (db : Trees) (n : ℤ) (w : Written)
      → Tries task Abort (on_key places table.tree base project) (is.stored n) db (Ok w) → PutsNew db w.trees n
      ⊎ Replaces db w.trees n
  tried db n w (inl h) = absurd (let e = h.1 in cc)
  tried db n w (inr h) = upserted db n w (judged db n w h.0 h.2)

  tried_each : (db : Trees) (top : ℤ) (done : Written × ℤ)
      → TriesEach task Abort (on_key places table.tree base project) (is.source ∷ []) top (nothing db) (Ok done)
      → (n : ℤ) × (PutsNew db done.0.trees n ⊎ Replaces db done.0.trees n)
  tried_each db top done h =
      let on = went h in
      let n = is.placed (db table.tree) in
      let new : with_rowid (rowids_for table top) (db table.tree) (cast_row table is.source) ≡ is.stored n.0 =
      ap (λ (k : Rowids). with_rowid k (db table.tree) (cast_row table is.source))
      (λ i. cond (is.uncounted i) (Above top) Chosen) ∙ n.1 in
      let trees : done.0.trees ≡ on.0.trees = ap (λ (p : Written × ℤ). p.0.trees) (same_value on.2) in (
        n.0,
        subst (λ (t : Trees). PutsNew db t n.0 ⊎ Replaces db t n.0) (sym trees)
            (tried db n.0 on.0
            (subst (λ r. Tries task Abort (on_key places table.tree base project) r db (Ok on.0)) new on.1)),
      )

  pub inserted : (db : Trees) (w : Written)
      → InsertsOr task Abort (on_key places table.tree base project) from db (Ok w) → (n : ℤ)
      × (PutsNew db w.trees n ⊎ Replaces db w.trees n)
  inserted db w h =
      let sourced = went h in
      let counter = went sourced.2 in
      let done = went counter.2 in
      let next = went done.2 in
      let rows = is.sourced db sourced.0 sourced.1 in
      let each = tried_each db (count_of counter.0) done.0
      (subst
      (λ r. TriesEach task Abort (on_key places table.tree base project) r (count_of counter.0) (nothing db)
      (Ok done.0)) rows done.1) in
      let last : next.0 ≡ done.0.0.trees = same_value
      (if_false (if table.is_counted then is_lt (int_cmp (count_of counter.0) done.0.1) else false) _ _
      (λ i. if is.uncounted i then is_lt (int_cmp (count_of counter.0) done.0.1) else false) next.1) in
      let trees : w.trees ≡ done.0.0.trees = ap (λ (x : Written). x.trees) (same_value next.2) ∙ last in
      (each.0, subst (λ (t : Trees). PutsNew db t each.0 ⊎ Replaces db t each.0) (sym trees) each.1)

  -- ---- the row of the update

  module _ (db : Trees) (ordered : AreApart (db table.tree)) (n m : ℤ) (was there : Row)
      (here : Has (db table.tree) was) (id : rowid was ≡ Int m) (at : rowid there ≡ rowid was) where
    abbrev given : Row
    given = params ++ rowid there ∷ shown table (is.stored n)

    abbrev env : Row → List Row
    env r = given ∷ r ∷ []

    abbrev picked : Row → List (List Row)
    picked r = if list_all (holds (env r)) (picks table.tree base project).filter then env r ∷ [] else []

    sought : column given base ≡ Int m
    sought = is.based there n ∙ at ∙ id

    others : (r : Row) → Has (db table.tree) r → value_cmp (rowid r) (rowid was) ≢ Equal → picked r ≡ []
    others r known apart =
        let no : equal Binary (rowid r) (column given base) ≡ false =
        false_from_ne_true _
        (λ yes. apart (subst (λ v. value_cmp (rowid r) v ≡ Equal) (sought ∙ sym id) (equal_cmp _ _ yes))) in
        rw no

    itself : picked was ≡ env was ∷ []
    itself =
        let yes : equal Binary (rowid was) (column given base) ≡ true =
        subst₂ (λ a b. equal Binary a b ≡ true) (sym id) (sym sought)
        (equal_from (Int m) (Int m) refl refl (tied_itself value_cmp_total (Int m))) in
        rw yes

    pub update_row : (rows : List Row) → Answers (record { schema = schema; trees = db })
        (record { lets = []; body = picks table.tree base project }) given rows → rows ≡ (Int m ∷ is.stored m) ∷ []
    update_row rows answers =
        let q = picks table.tree base project in
        let a : IsAnswer q (overlay db []) given rows = answers.answer Null in
        let all : flat_map picked (overlay db [] table.tree) ≡ env was ∷ [] = ap (flat_map picked) (is.overlaid db)
        ∙ only_one picked (db table.tree) was ordered.apart here others ∙ itself in
        let staged : a.staged ≡ env was ∷ [] = a.grouped ∙ all in
        let new : eval_all project (env was) ≡ Int m ∷ is.stored m = is.updated there was n m id in
        let o : Output = ([], Int m ∷ is.stored m) in
        let out : output q (env was) ≡ o = ap (λ (r : Row). let p : Output = ([], r) in p) new in
        let kept : a.kept ≡ o ∷ [] = a.distinct ∙ ap (map (output q)) staged ∙ ap (λ (x : Output). x ∷ []) out in
        let ordered = one_permutation o a.ordered (subst (λ k. IsPermutation k a.ordered) kept a.same) in
        a.shown ∙ ap (λ xs. page q given (map (λ (p : Output). p.1) xs)) ordered

  -- ---- what the table has then

  module _ (db next : Trees) (shaped : AreApart (db table.tree))
      (apart : IsAscending (λ a b. a.tree ≡ b.tree → ⊥) schema.tables) (listed : Has schema.tables table) where
    -- The row k is new among those that are left, and what is taken had its key.
    has_put : (k : ℤ) (left taken : List Row)
        → Turns schema db next table left taken (cast_row table (is.stored k) ∷ [])
        → ((r : Row) → Has (db table.tree) r → Has taken r → same_key key (cells table r) row ≡ true)
        → ((r : Row) → Has left r → same_key key (cells table r) row ≡ false) → AreApart (next table.tree)
        → AllByRecursion (λ t. (t.tree ≡ table.tree → ⊥) → next t.tree ≡ db t.tree) schema.tables
        → HasPut schema table key row db next
    has_put k left taken turn gone other next_apart others = record {
      kept = λ rows keeps. record {
        stored = λ x there. elim there [
          | inl same ↦ (is.stored k, turn.added (is.stored k) (inl (sym (is.recast k))), is.shows k ∙ sym same)
          | inr rest ↦
              let both = has_filtered _ rows x rest in
              let old = keeps.stored x both.0 in (
                old.0,
                elim (turn.split old.0 old.1) [
                  | inl stays ↦ turn.stays old.0 stays
                  | inr went ↦ absurd (true≢false (sym (gone old.0 old.1 went)
                      ∙ ap (λ y. same_key key y row) old.2 ∙ not-true _ both.1))
                ],
                old.2,
              )
        ];
        only = λ r there. elim (turn.from r there) [
          | inl (inl same) ↦ inl (ap (cells table) (same ∙ is.recast k) ∙ is.shows k)
          | inl (inr none) ↦ absurd none
          | inr stays ↦ inr
              (has_kept _ rows (cells table r) (keeps.only r (turn.was r stays)) (ap not (other r stays)))
        ];
      };
      apart = next_apart;
      others = others;
    }

    new_has : (n : ℤ) → PutsNew db next n → HasPut schema table key row db next
    new_has n it =
        let edit : Edit = edit_of db table [] Given 0 (is.stored n ∷ []) in
        let turn = turns_by schema db next edit apart listed it.applies (λ r h. inl h) in
        has_put n (left_by db edit) (taken_by db edit) turn (λ r there none. absurd none)
        (λ r left. it.free r (turn.was r left))
        (subst AreApart (sym it.applies.rows)
        (apart-put_row (cast_row table (is.stored n)) (db table.tree) (not-true _ (and_parts _ _ it.applies.fresh).0)
        (and_parts _ _ it.applies.keyed).0 shaped)) it.applies.tables

    replaced_has : (n : ℤ) → Replaces db next n → HasPut schema table key row db next
    replaced_has n it =
        let m = id_in (rowid it.was) in
        let id : rowid it.was ≡ Int m = int_is (rowid it.was) (all_has _ _ it.was shaped.ints it.here) in
        let row_is = update_row db shaped n m it.was it.there it.here id it.at it.rows it.answers in
        let edit : Edit = edit_of db table (m ∷ []) Given 1 ((Int m ∷ is.stored m) ∷ []) in
        let applies : Applies schema Enforced db edit next =
        subst (λ (l : List Row). Applies schema Enforced db (edit_of db table (ids_of l) Given 1 l) next) row_is
        it.applies in
        let turn = turns_by schema db next edit apart listed applies (left_or_gone (db table.tree) shaped m) in
        let new : Has (next table.tree) (is.stored m) = turn.added (is.stored m) (inl (sym (is.recast m))) in
        has_put m (left_by db edit) (taken_by db edit) turn
        (λ r there old. elim old [
          | inl same ↦ subst (λ y. same_key key (cells table y) row ≡ true)
              (found_row (db table.tree) m it.was shaped.apart it.here
              (ap (λ v. is_eq (value_cmp v (Int m))) id ∙ ap is_eq (tied_itself value_cmp_total (Int m))) ∙ sym same)
              it.same
          | inr none ↦ absurd none
        ])
        (λ r left. false_from_ne_true _ (λ same.
        let kept = has_filtered _ (db table.tree) r left in
        let int : rowid r ≡ Int (id_in (rowid r)) = int_is (rowid r) (all_has _ _ r shaped.ints kept.0) in
        let equal = is.distinct next r m (id_in (rowid r)) (applies.fits.rules Unique (λ e. absurd (cc))) int
        (turn.stays r left) new same in
        true≢false
        (sym
        (ap is_eq
        (subst (λ v. value_cmp (rowid r) v ≡ Equal) (sym equal ∙ is.named it.was m id it.same)
        (tied_itself value_cmp_total (rowid r)))) ∙ not-true _ kept.1)))
        (subst AreApart (sym applies.rows)
        (apart-put_row (cast_row table (is.stored m)) (without_rowid m (db table.tree))
        (not-true _ (and_parts _ _ applies.fresh).0) (and_parts _ _ applies.keyed).0
        (apart-filter _ (db table.tree) shaped))) applies.tables

    -- an upsert by key, whole
    pub puts : (w : Written) → InsertsOr task Abort (on_key places table.tree base project) from db (Ok w)
        → w.trees ≡ next → HasPut schema table key row db next
    puts w h e =
        let did = inserted db w h in
        elim did.1 [
          | inl new ↦ new_has did.0 (subst (λ (t : Trees). PutsNew db t did.0) e new)
          | inr old ↦
              replaced_has did.0 (subst (λ (t : Trees). Replaces db t did.0) e old)
        ]
