-- Why a text that is understood is not run: never for how it is written.
use Rattle.std.proofs.Common.{ℕ, ◌≡◌, ◌⊎◌, ◌∷◌, [], ℤ, List, Bool, true, false, Option, Some, None, Ok, Err}
use Rattle.std.proofs.Common.{sym, ap, subst, subst₂, ◌∙◌, inl, inr, MatchBool, true≢false}
use Rattle.std.specs.Prelude.{is_ok, option_map, slice_get}
use Rattle.sqlite_value.specs.Order.{Row}
use Rattle.sqlite_trees.specs.declared.error.StoreError.{StoreError}
use Rattle.sqlite_trees.specs.declared.error.StoreError.TheVariants.{OutOfMemory}
use Rattle.sqlite_schema.specs.declared.command.Command.{Command}
use Rattle.sqlite_schema.specs.declared.command.Command.TheVariants.{InsertOr, CreateTable}
use Rattle.sqlite_schema.specs.declared.command.Conflict.TheVariants.{Abort}
use Rattle.sqlite_schema.specs.declared.command.Source.{Source}
use Rattle.sqlite_schema.specs.declared.command.Source.TheVariants as source
use Rattle.sqlite_schema.specs.declared.command.Upsert.{Upsert}
use Rattle.sqlite_schema.specs.declared.program.Program.{Program}
use Rattle.sqlite_rules.specs.declared.error.Refusal.{Refusal}
use Rattle.sqlite_rules.specs.declared.error.Refusal.TheVariants.{Mismatch}
use Rattle.sqlite_resolve.specs.Compile.{table_defined_by}
use Rattle.sqlite_resolve.specs.declared.compiled.Compiled.{Compiled}
use Rattle.sqlite_resolve.specs.declared.error.CompileError.{CompileError}
use Rattle.sqlite_catalog.specs.declared.error.Refusal.TheVariants as reason
use Rattle.sqlite.specs.declared.error.Error.{Error}
use Rattle.sqlite.specs.declared.error.Error.TheVariants.{SqlInputError}
use Rattle.sqlite.specs.declared.run.Mode.{Mode}
use Rattle.sqlite.specs.Clock.{timed}
use Rattle.sqlite.specs.Does.{Does, MakesTable, sequence_text, lacks_sequence, AtPlace}
use Rattle.sqlite.specs.Effect.{edit_error}
use Rattle.sqlite.specs.Rows.{Part, Outcome, Sourced, Written, Task, Puts, Resolves, Upserts, Tries, TriesEach}
use Rattle.sqlite.specs.Rows.{CounterIn, CountsIn, InsertsOr}
use Rattle.sqlite.specs.State.{ExecutesIn, ExecutesInside, IsNotRun, RunsCommand, mode_of, shows_rows, store_error}
use Rattle.sqlite.specs.Steps.{FailsToCommit}
use Rattle.sqlite.proofs.Callers.{IsPlain, command_of, statement_of}
use Rattle.store_tables.specs.Sql.{Database, Table, Trees, State, understood}
use Rattle.store_tables.specs.internal.Reading.{IsNoInput}

pub store_known : (cause : StoreError) → IsNoInput (store_error cause)
store_known OutOfMemory why is = cc
store_known _ why is = cc

-- a commit fails only for the store, or where no transaction is open
pub commit_known : (old new : State) (e : Error) → FailsToCommit old new e → IsNoInput e
commit_known old new e (inl h) why is = store_known h.0 why (sym h.1 ∙ is)
commit_known old new e (inr h) why is = cc

edit_known : (refusal : Refusal) → IsNoInput (edit_error refusal)
edit_known Mismatch why is = cc
edit_known _ why is = cc

either : {X Y : Type 0} → ¬ X → ¬ Y → ¬ (X ⊎ Y)
either first other (inl h) = first h
either first other (inr h) = other h

on_either : (b : Bool) {X Y : Type 0} → ¬ X → ¬ Y → ¬ MatchBool b X Y
on_either true first other = first
on_either false first other = other

module _ (why : CompileError) where
  -- the part is not refused for how a text of SQL is written
  abbrev pub IsQuiet : {A : Type 0} → Part A → Type 0
  IsQuiet P = ¬ P (Err (Some (SqlInputError why)))

  gives : {A : Type 0} {a : A} {e : Option Error} → ¬ (◌≡◌ {A = Outcome A} (Err e) (Ok a))
  gives is = cc

  then_next : {A B : Type 0} {S : Option Error → Type 0} {F N : A → Type 0} → ¬ S (Some (SqlInputError why))
      → ((a : A) → ¬ N a)
      → ¬ (((stop : Option Error) × S stop × (◌≡◌ {A = Outcome B} (Err (Some (SqlInputError why))) (Err stop)))
      ⊎ ((a : A) × F a × N a))
  then_next first next (inl (stop, h, is)) =
      let same : stop ≡ Some (SqlInputError why) = cc in first (rw same at h)
  then_next first next (inr (a, h, more)) = next a more

  edited : {W : Option Refusal → Type 0}
      → ¬ ((refusal : Option Refusal) × W refusal × (Some (SqlInputError why) ≡ option_map edit_error refusal))
  edited (None, h, is) = cc
  edited (Some refusal, h, is) = edit_known refusal why (cc)

  sourced : (limit : Option ℕ) (db : Database) (params : Row) (from : Source) → IsQuiet (Sourced limit db params from)
  sourced limit db params (source.Values terms width) = either (λ h. cc) (λ h. cc)
  sourced limit db params (source.Query q) = either (λ h. cc) (either (λ h. cc) (λ h. cc))

  placed : {X A : Type 0} (P : X → Part A) (o : Option X) → ((x : X) → IsQuiet (P x)) → IsQuiet (AtPlace P o)
  placed P None quiet h = cc
  placed P (Some x) quiet h = quiet x h

  module _ (task : Task) where
    counter : (db : Trees) (counters : Option Table) → IsQuiet (CounterIn task db counters)
    counter db None h = cc
    counter db (Some counters) h = cc

    counts : (db : Trees) (counter : Option Row) (top : ℤ) (counters : Option Table)
        → IsQuiet (CountsIn task db counter top counters)
    counts db counter top None h = cc
    counts db counter top (Some counters) h = edited h

    puts : (new : Row) (db : Trees) → IsQuiet (Puts task new db)
    puts new db = then_next edited (λ next. gives)

    resolves : (new : Row) (db : Trees) (there : Row) (update : Option Program)
        → IsQuiet (Resolves task new db there update)
    resolves new db there None = gives
    resolves new db there (Some q) =
        then_next (either (λ h. cc) (either (λ h. cc) (λ h. cc))) (λ rows. then_next edited (λ next. gives))

    upserts : (new : Row) (db : Trees) (clauses : List Upsert) → IsQuiet (Upserts task Abort new db clauses)
    upserts new db [] ([], _, h) = puts new db h
    upserts new db [] (there ∷ found, _, h) = puts new db h
    upserts new db (clause ∷ more) ([], _, h) = upserts new db more h
    upserts new db (clause ∷ more) (there ∷ found, _, h) = resolves new db there clause.update h

    tries : (clauses : List Upsert) (new : Row) (db : Trees) → IsQuiet (Tries task Abort clauses new db)
    tries clauses new db (inl h) = cc
    tries clauses new db (inr (None, _, h)) = upserts new db clauses h
    tries clauses new db (inr (Some refusal, _, h)) = edit_known refusal why (cc)

    each : (clauses : List Upsert) (sources : List Row) (top : ℤ) (done : Written)
        → IsQuiet (TriesEach task Abort clauses sources top done)
    each clauses [] top done = gives
    each clauses (source ∷ more) top done =
        then_next (tries clauses _ done.trees) (λ one. each clauses more _ _)

    inserts : (clauses : List Upsert) (from : Source) (db : Trees) → IsQuiet (InsertsOr task Abort clauses from db)
    inserts clauses from db =
        then_next (sourced task.limit (record { schema = task.schema; trees = db }) _ from)
        (λ rows. then_next (on_either task.table.is_counted (counter db _) gives)
        (λ counter. then_next (each clauses rows _ _)
        (λ done. then_next (on_either _ (counts done.0.trees counter done.1 _) gives) (λ next. gives))))

  made : (sql : List ℕ) (db : Database) → is_ok (table_defined_by sql) ≡ true → IsQuiet (MakesTable sql db)
  made sql db defined (inl h) = cc
  made sql db defined (inr (reason.Invalid e, h, is)) = true≢false (sym defined ∙ ap is_ok h)
  made sql db defined (inr (_, h, is)) = cc

  module _ (limit : Option ℕ) (mode : Mode) (params : Row) (db : Database) (text : List ℕ) where
    -- an upsert is refused for its rows alone
    pub quiet_upsert : (at : ℕ) (from : Source) (clauses : List Upsert)
        → IsQuiet (Does limit mode params db text None (InsertOr at Abort from clauses))
    quiet_upsert at from clauses =
        placed _ (slice_get db.schema.tables at)
        (λ table. then_next (inserts
        (record { limit = limit; keys = mode.keys; schema = db.schema; table = table; params = params }) clauses from
        db.trees) (λ w. then_next (λ h. cc) (λ in_doubt. then_next gives (λ rows. gives))))

    -- a table whose text is understood is refused for what stands already
    pub quiet_create : is_ok (table_defined_by text) ≡ true → is_ok (table_defined_by sequence_text) ≡ true
        → IsQuiet (Does limit mode params db text None CreateTable)
    quiet_create defined counted =
        then_next (then_next (made text db defined)
        (λ d. on_either (lacks_sequence d.schema) (made sequence_text d counted) gives)) (λ after. gives)

  -- ---- a text

  module _ (sql : List ℕ) (params : Row) (old new : State) (command : Command)
      (is : command_of (understood old.now.schema sql) ≡ command) (plain : IsPlain (understood old.now.schema sql))
      (quiet : (limit : Option ℕ) (mode : Mode) (given : Row)
      → IsQuiet (Does limit mode given old.now (statement_of sql (understood old.now.schema sql)) None command)) where
    ran : (c : Compiled) (given : Row) → understood old.now.schema sql ≡ Ok c
        → ¬ RunsCommand old new sql c given (Err (SqlInputError why))
    ran c given some (inr h) = store_known h.0 why (sym h.1)
    ran c given some (inl (inl h, same)) = either (λ h. cc) (λ h. cc) h
    ran c given some (inl (inr (may, h), same)) =
        let bare = subst IsPlain some plain in
        quiet old.step_limit (mode_of old) given
        (subst₂ (λ k t. Does old.step_limit (mode_of old) given old.now t None k (Err (Some (SqlInputError why))))
        (sym (ap command_of some) ∙ is) (sym (ap (statement_of sql) some)) (rw bare.0 at h))

    executed : ¬ ExecutesIn false sql params old new (Err (SqlInputError why))
    unfolding ExecutesIn IsNotRun
    executed (inl (inl (inl (fault, none, is), same))) = subst IsPlain none plain
    executed (inl (inl (inr (c, some, h), same))) = either (λ h. cc) (either (λ h. cc) (λ h. cc)) h
    executed (inl (inr h)) = store_known h.0 why (sym h.1)
    executed (inr (c, it, h)) =
        on_either (shows_rows false c) (λ h. cc) (ran c (timed params c.formats it.now) it.is) h

    -- if the text was not run, it is not for how it is written
    pub refused_known : ¬ ExecutesInside 0 sql params old new (Err (SqlInputError why))
    refused_known (inl h) = executed h.0
    refused_known (inr h) = cc
