-- What a SELECT from one table shows.
use Rattle.std.proofs.Common.{◌≡◌, ℕ, Bool, true, false, List, [], ◌∷◌, map, flat_map, refl, sym, ap, subst, ◌∙◌, inl}
use Rattle.std.proofs.Common.{inr, if◌then◌else◌, IsPermutation}
use Rattle.std.specs.List.{list_all}
use Rattle.std.proofs.lemmas.List.Sorted.{Contains-permutation, IsPermutation-sym}
use Rattle.sqlite_value.specs.declared.value.Value.TheVariants.{Null}
use Rattle.sqlite_value.specs.declared.keys.Key.{Key}
use Rattle.store_tables.specs.Sql.{Row, Trees, Database, State, Shown, IsUnchanged, Survives, HasCleanDisk, Table}
use Rattle.store_tables.specs.Sql.{understood, Schema, Has}
use Rattle.sqlite.specs.Effect.{Reads}
use Rattle.sqlite.specs.Command.TheVariants.{Select}
use Rattle.sqlite.specs.State.{ShowsRows, CommitsShowing}
use Rattle.sqlite.specs.Clock.{timed}
use Rattle.sqlite.proofs.Callers.{IsPlain, never_commits}
use Rattle.store_tables.specs.Content.{cells, Keeps}
use Rattle.store_tables.specs.Contents.{Content, Holds, Leaves, IsExactly}
use Rattle.sqlite_sql.specs.Term.{Term, eval_all, holds}
use Rattle.sqlite_sql.specs.Query.{IsAnswer, Output, Query, output}
use Rattle.sqlite_sql.specs.Program.{overlay}
use Rattle.sqlite_rules.proofs.ProbeLemmas.{has_mapped as mapped_from, mapped_has}
use Rattle.sqlite_rules.proofs.ListLemmas.{has_contained, contains_had, has_either, has_left, has_right}
use Rattle.store_tables.specs.internal.Put.{selects}

pub has_mapped : {A B : Type 0} (f : A → B) (xs : List A) (y : B) → Has (map f xs) y → (x : A) × Has xs x × (y ≡ f x)
has_mapped = mapped_from

pub has_map : {A B : Type 0} (f : A → B) (xs : List A) (x : A) → Has xs x → Has (map f xs) (f x)
has_map = mapped_has

has_flat : {A B : Type 0} (f : A → List B) (xs : List A) (y : B) → Has (flat_map f xs) y → (x : A) × Has xs x
    × Has (f x) y
has_flat f [] y h = absurd h
has_flat f (x ∷ xs) y h = elim (has_either (f x) (flat_map f xs) y h) [
  | inl here ↦ (x, inl refl, here)
  | inr later ↦ let it = has_flat f xs y later in (it.0, inr it.1, it.2)
]

has_in_flat : {A B : Type 0} (f : A → List B) (xs : List A) (x : A) (y : B) → Has xs x → Has (f x) y
    → Has (flat_map f xs) y
has_in_flat f [] x y h k = absurd h
has_in_flat f (z ∷ xs) x y (inl e) k = has_left (f z) (flat_map f xs) y (subst (λ v. Has (f v) y) e k)
has_in_flat f (z ∷ xs) x y (inr h) k = has_right (f z) (flat_map f xs) y (has_in_flat f xs x y h k)

pub has_turned : {X : Type 0} (xs ys : List X) (x : X) → IsPermutation xs ys → Has xs x → Has ys x
has_turned xs ys x p h = has_contained ys x (Contains-permutation xs ys x p (contains_had xs x h))

-- what is shown, of the rows that pass
pub record AreShown (db : Trees) (params : Row) (tree : ℕ) (filter project : List Term) (rows : List Row) : Type 0 where
  pub sound : (x : Row) → Has rows x → (r : Row) × Has (db tree) r × (list_all (holds (params ∷ r ∷ [])) filter ≡ true)
      × (x ≡ eval_all project (params ∷ r ∷ []))
  pub complete : (r : Row) → Has (db tree) r → list_all (holds (params ∷ r ∷ [])) filter ≡ true
      → Has rows (eval_all project (params ∷ r ∷ []))

one_of : {A : Type 0} (b : Bool) (x y : A) → Has (if b then x ∷ [] else []) y → (b ≡ true) × (y ≡ x)
one_of true x y (inl e) = (refl, e)
one_of true x y (inr h) = absurd h
one_of false x y h = absurd h

module _ (db : Database) (params : Row) (tree : ℕ) (filter project : List Term) (order : List (Term × Key))
    (plain : (d : Trees) → overlay d [] tree ≡ d tree) where
  abbrev query : Query
  query = selects tree filter project order

  abbrev IsRead : List Row → Type 0
  IsRead rows = IsAnswer query (overlay db.trees []) params rows

  abbrev passed : Row → List (List Row)
  passed r = if list_all (holds (params ∷ r ∷ [])) filter then (params ∷ r ∷ []) ∷ [] else []

  -- what is shown is, in some order, what the query makes of the rows that pass
  pub same_shown : (rows : List Row) (a : IsRead rows)
      → IsPermutation (map (output query) (flat_map passed (db.trees tree))) a.ordered
  same_shown rows a =
      subst (λ k. IsPermutation k a.ordered)
      (a.distinct ∙ ap (map (output query)) (a.grouped ∙ ap (flat_map passed) (plain db.trees))) a.same

  -- each row that is shown comes from one of the table
  pub env_of : (rows : List Row) (a : IsRead rows) (o : Output) → Has a.ordered o → (r : Row) × Has (db.trees tree) r
      × (list_all (holds (params ∷ r ∷ [])) filter ≡ true) × (o ≡ output query (params ∷ r ∷ []))
  env_of rows a o there =
      let e = has_mapped (output query) (flat_map passed (db.trees tree)) o
      (has_turned _ _ o (IsPermutation-sym _ _ (same_shown rows a)) there) in
      let r = has_flat passed (db.trees tree) e.0 e.1 in
      let is = one_of (list_all (holds (params ∷ r.0 ∷ [])) filter) (params ∷ r.0 ∷ []) e.0 r.2 in
      (r.0, r.1, is.0, e.2 ∙ ap (output query) is.1)

  pub shown_rows : (names : List (List ℕ)) (rows : List Row)
      → Reads (Select (record { lets = []; body = query }) names) db params rows
      → AreShown db.trees params tree filter project rows
  shown_rows names rows h =
      let a : IsRead rows = h.answer Null in
      record {
        sound = λ x there.
            let o = has_mapped (λ (p : Output). p.1) a.ordered x (subst (λ l. Has l x) a.shown there) in
            let r = env_of rows a o.0 o.1 in
            (r.0, r.1, r.2, o.2 ∙ ap (λ (p : Output). p.1) r.3);
        complete = λ r there passes.
            let env = params ∷ r ∷ [] in
            let staged : Has (flat_map passed (db.trees tree)) env =
            has_in_flat passed (db.trees tree) r env there
            (subst (λ b. Has (if b then env ∷ [] else []) env) (sym passes) (inl refl)) in
            let ordered = has_turned _ _ (output query env) (same_shown rows a) (has_map (output query) _ env staged) in
            subst (λ l. Has l (eval_all project env)) (sym a.shown)
            (has_map (λ (p : Output). p.1) a.ordered (output query env) ordered);
      }

pub shown_unchanged : (sql : List ℕ) (params : Row) (old new : State) (rows : List Row)
    → IsPlain (understood old.now.schema sql) → Shown sql params old new rows → IsUnchanged old new
unfolding Shown
shown_unchanged sql params old new rows plain h =
    let none = (subst IsPlain h.1.is plain).0 in
    let it = subst (ShowsRows old new sql h.0 (timed params h.0.formats h.1.now) rows) none h.2 in
    it.3

-- a call that reads leaves nothing else, whatever it answers
pub may_as_before : (schema : Schema) (sql : List ℕ) (params : Row) (old new : State) → IsPlain (understood schema sql)
    → Survives old new (CommitsShowing sql params old) → HasCleanDisk new
    → (content : Content) → IsExactly schema content old → (db : Trees) → new.may_leave db → Leaves schema content db
may_as_before schema sql params old new plain s clean content k db left = elim (s.crash clean db left) [
  | inl was ↦ k.may_leave db was
  | inr wrote ↦
      absurd (never_commits sql params old db (subst (λ d. IsPlain (understood d sql)) (sym k.now.schema) plain) wrote)
]

pub unchanged_exactly : (schema : Schema) (content : Content) (old new : State) → IsExactly schema content old
    → IsUnchanged old new → ((db : Trees) → new.may_leave db → Leaves schema content db) → IsExactly schema content new
unchanged_exactly schema content old new k same may = record {
  is_open = same.0.is_open;
  idle = same.0.mode ∙ k.idle;
  now = subst (λ d. Holds schema d content) (sym same.0.now_is) k.now;
  committed = same.0.committed_is ∙ k.committed ∙ sym same.0.now_is;
  may_leave = may;
}

-- What a SELECT of every column shows is the content, of whatever database.
pub found_rows : (table : Table) (project : List Term) (order : List (Term × Key)) (names : List (List ℕ))
    → ((d : Trees) → overlay d [] table.tree ≡ d table.tree)
    → ((r : Row) → eval_all project ([] ∷ r ∷ []) ≡ cells table r)
    → (db : Database) (rows : List Row) → Reads
    (Select (record { lets = []; body = selects table.tree [] project order }) names) db [] rows
    → Keeps table db.trees rows
found_rows table project order names overlaid shows db rows h =
    let are = shown_rows db [] table.tree [] project order overlaid names rows h in
    record {
      stored = λ x there. let it = are.sound x there in (it.0, it.1, sym (it.3 ∙ shows it.0));
      only = λ r there. subst (λ y. Has rows y) (shows r) (are.complete r there refl);
    }
