-- A SELECT changes nothing, whatever the schema.
use Rattle.std.proofs.Common.{◌≡◌, ℕ, Bool, true, false, true≢false, List, Ok, Err, Result, Option, None, refl, sym, ap}
use Rattle.std.proofs.Common.{subst, ◌∙◌, inl, inr, ◌⊎◌, IsTrue, arith, if◌then◌else◌, IfOk, IfErr, IsSome}
use Rattle.std.proofs.lemmas.Bool.{cases_Bool}
use Rattle.store_tables.specs.Sql.{Row, Schema, understood, State, Shown, IsUnchanged, Survives, HasCleanDisk}
use Rattle.sqlite.specs.Command.{Command}
use Rattle.sqlite.specs.Clock.{timed}
use Rattle.sqlite.specs.Listing.{reads_listing, is_select as is_query, if_select, listing_schema}
use Rattle.sqlite.specs.State.{ShowsRows, FailsToQuery, FailsToShow, IsNotRun, IsRolledBack, CommitsShowing}
use Rattle.sqlite.specs.declared.error.Error.{Error}
use Rattle.sqlite_ast.specs.declared.Statement.{Statement}
use Rattle.sqlite_ast.specs.declared.Statement.TheVariants as written
use Rattle.sqlite_syntax.specs.declared.statement.Parsed.{Parsed}
use Rattle.sqlite_schema.specs.declared.command.Returning.{Returning}
use Rattle.sqlite_resolve.specs.declared.compiled.Compiled.{Compiled}
use Rattle.sqlite_resolve.specs.declared.error.CompileError.{CompileError}
use Rattle.sqlite_resolve.specs.Lowering.{Checked, and_then}
use Rattle.sqlite_resolve.specs.Compile.{first, compiled, planned, meaning, returning, command}
use Rattle.store_tables.specs.internal.Queries.{is_select, is_read_as_select, IsSelect}
use Rattle.store_tables.specs.Over.{HasRowsIn}
use Rattle.store_tables.specs.declared.names.Version.{Version}
use Rattle.store_tables.specs.Contents.{Content}
use Rattle.store_tables.specs.Reading.{KeepsContent, KeepsMay, OnlyReads, Reads}
use Rattle.store_tables.proofs.UpsertLemmas.{same_value}

nothing_shown : (schema : Schema) (base : ℕ) (s : Statement) → is_select s ≡ true → returning schema base s ≡ Ok None
unfolding returning
nothing_shown schema base (written.Select query) h = refl
nothing_shown schema base _ h = absurd (true≢false (sym h))

-- a part that succeeded
module _ {A B : Type 0} where
  through : (r : Checked A) (f : A → Checked B) (b : B) → and_then r f ≡ Ok b → (a : A) × (r ≡ Ok a) × (f a ≡ Ok b)
  through (Ok a) f b h = (a, refl, h)
  through (Err e) f b h = cc

meant_plain : (schema : Schema) (p : Parsed) (base : ℕ) (found : Command × Option Returning)
    → is_select p.statement ≡ true → meaning schema p base ≡ Ok found → found.1 ≡ None
unfolding meaning
meant_plain schema p base found select h =
    let (shown, is, rest) = through (returning schema base p.statement) _ found h in
    let none : shown ≡ None = same_value (sym is ∙ nothing_shown schema base p.statement select) in
    let (c, compiles, last) = through (command schema p.formats base p.statement) _ found rest in
    ap (λ (x : Command × Option Returning). x.1) (sym (same_value last)) ∙ none

compiled_plain : (schema : Schema) (sql : List ℕ) (c : Compiled) → IsSelect sql → compiled schema sql ≡ Ok c
    → c.returning ≡ None
unfolding compiled planned
compiled_plain schema sql c select h =
    let (p, is, rest) = through (first sql) _ c h in
    let (plan, plans, last) = through (planned schema p) _ c rest in
    let (found, means, whole) = through (meaning schema p _) _ plan plans in
    let read : is_select p.statement ≡ true = subst (λ r. is_read_as_select r ≡ true) is select in
    ap (λ (x : Compiled). x.returning) (sym (same_value last))
    ∙ (ap (λ (x : List (List ℕ) × (Command × Option Returning)). x.1.1) (sym (same_value whole))
    ∙ meant_plain schema p _ found read means)

listed_plain : (b : Bool) (c : Compiled) (d : Compiled) → (if b then Ok d else Err CompileError.NoSuchTable) ≡ Ok c
    → d ≡ c
listed_plain true c d h = same_value h
listed_plain false c d h = cc

-- a SELECT has no RETURNING, whatever the schema
pub select_plain : (schema : Schema) (sql : List ℕ) (c : Compiled) → IsSelect sql → understood schema sql ≡ Ok c
    → c.returning ≡ None
unfolding understood
select_plain schema sql c select h = elim (cases_Bool (reads_listing schema sql)) [
  | inl listing ↦ by_listing (compiled listing_schema sql) refl (rw listing at h)
  | inr own ↦ compiled_plain schema sql c select (rw own at h)
]
  where
    by_listing : (r : Checked Compiled) → compiled listing_schema sql ≡ r → if_select r ≡ Ok c → c.returning ≡ None
    by_listing (Ok d) is whole = compiled_plain listing_schema sql c select
        (is ∙ ap Ok (listed_plain (is_query d.command) c d whole))
    by_listing (Err e) is whole = cc

some_none : {X : Type 0} (o : Option X) → o ≡ None → IsSome o → ⊥
some_none o none some = let e = rw none at some in cc

-- ---- what a call with such a text leaves

module _ (sql : List ℕ) (select : IsSelect sql) (params : Row) (old new : State) where
  pub select_keeps_may : Survives old new (CommitsShowing sql params old) → HasCleanDisk new → KeepsMay old new
  unfolding CommitsShowing
  select_keeps_may s clean db left = elim (s.crash clean db left) [
    | inl was ↦ was
    | inr made ↦ absurd (some_none made.0.returning (select_plain old.now.schema sql made.0 select made.1.is) made.2)
  ]

  pub select_unchanged : (rows : List Row) → Shown sql params old new rows → IsUnchanged old new
  unfolding Shown
  select_unchanged rows h =
      let it = subst (ShowsRows old new sql h.0 (timed params h.0.formats h.1.now) rows)
      (select_plain old.now.schema sql h.0 select h.1.is) h.2 in
      it.3

  pub select_fails : (e : Error) → FailsToQuery sql params old new e → IsUnchanged old new ⊎ IsRolledBack old new
  unfolding FailsToQuery IsNotRun
  select_fails e (inl (inl h)) = inl h.1
  select_fails e (inl (inr h)) = inr h.3
  select_fails e (inr h) =
      let it = subst (FailsToShow old new sql h.0 (timed params h.0.formats h.1.now) e)
      (select_plain old.now.schema sql h.0 select h.1.is) h.2 in
      inl it.3

  kept_open : IsUnchanged old new ⊎ IsRolledBack old new → IsTrue new.is_open → IsTrue old.is_open
      × (new.committed ≡ old.committed)
  kept_open (inl same) here = (same.0.was_open, same.0.committed_is)
  kept_open (inr undone) here = (undone.was_open here, (undone.undone here).1)

  either_way : {X : Type 0} (items : X → List Row) (r : Result X Error)
      → IfOk r (λ x. Shown sql params old new (items x)) → IfErr r (FailsToQuery sql params old new)
      → IsUnchanged old new ⊎ IsRolledBack old new
  either_way items (Ok x) h k = inl (select_unchanged (items x) h)
  either_way items (Err e) h k = select_fails e k

  -- a call that changes nothing, or rolls back where it fails, only reads
  pub only_left : (old.in_transaction ≡ false → new.in_transaction ≡ false)
      → Survives old new (CommitsShowing sql params old)
      → (HasCleanDisk new → IsUnchanged old new ⊎ IsRolledBack old new) → OnlyReads old new
  only_left mode survives left = record {
    idle = mode;
    clean = survives.clean;
    may = select_keeps_may survives;
    was_open = λ clean here. (kept_open (left clean) here).0;
    committed = λ clean here. (kept_open (left clean) here).1;
    kept = λ t. absurd (true≢false (sym t));
  }

  -- a call of a query only reads
  pub only_reads : {X : Type 0} (items : X → List Row) (r : Result X Error)
      → (old.in_transaction ≡ false → new.in_transaction ≡ false) → Survives old new (CommitsShowing sql params old)
      → (HasCleanDisk new → IfOk r (λ x. Shown sql params old new (items x)))
      → (HasCleanDisk new → IfErr r (FailsToQuery sql params old new)) → OnlyReads old new
  only_reads items r mode survives ok err =
      only_left mode survives (λ clean. either_way items r (ok clean) (err clean))

-- ---- calls that read, one after another

-- no call
pub read_nothing : (answered : Bool) (s : State) → Reads answered s s
read_nothing answered s = record {
  idle = λ h. h;
  clean = omega arith;
  may = λ clean db h. h;
  was_open = λ clean h. h;
  committed = λ clean h. refl;
  kept = λ t clean schema content k. k;
}

-- a call after one that answered, if the last did
chain : (first answered : Bool) (a b c : State) → (IsTrue answered → IsTrue first) → Reads first a b
    → Reads answered b c → Reads answered a c
chain first answered a b c so one two =
    let before : HasCleanDisk c → HasCleanDisk b = λ clean. omega (arith, clean, two.clean) in
    record {
      idle = λ h. two.idle (one.idle h);
      clean = omega (arith, one.clean, two.clean);
      may = λ clean db h. one.may (before clean) db (two.may clean db h);
      was_open = λ clean h. one.was_open (before clean) (two.was_open clean h);
      committed = λ clean h. two.committed clean h ∙ one.committed (before clean) (two.was_open clean h);
      kept = λ t clean schema content k.
          two.kept t clean schema content (one.kept (so t) (before clean) schema content k);
    }

pub reads_then : (a b c : State) → OnlyReads a b → OnlyReads b c → OnlyReads a c
reads_then a b c = chain false false a b c (λ t. t)

pub read_then : (answered : Bool) (a b c : State) → Reads true a b → Reads answered b c → Reads answered a c
read_then answered a b c = chain true answered a b c (λ t. refl)

pub reads_by : (answered : Bool) (old new : State) → OnlyReads old new
    → (IsTrue answered → HasCleanDisk new → KeepsContent old new) → Reads answered old new
reads_by answered old new only kept = record {
  idle = only.idle;
  clean = only.clean;
  may = only.may;
  was_open = only.was_open;
  committed = only.committed;
  kept = kept;
}

pub only_reading : (answered : Bool) (old new : State) → Reads answered old new → OnlyReads old new
only_reading answered old new reads =
    chain answered false old new new (λ t. absurd (true≢false (sym t))) reads (read_nothing false new)

-- a call whose answer comes to nothing
pub read_failed : (answered : Bool) (a b : State) → Reads answered a b → Reads false a b
read_failed = only_reading

-- what a call that answered leaves
pub still_rows : {version : Version} (old new : State) → KeepsContent old new → (content : Content)
    → HasRowsIn version content old → HasRowsIn version content new
still_rows old new kept content k = record {
  schema = k.schema;
  whole = k.whole;
  club = k.club;
  are = k.are;
  exactly = kept k.schema k.whole k.exactly;
}
