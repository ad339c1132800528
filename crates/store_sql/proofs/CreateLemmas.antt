-- CREATE TABLE in its turn, and the first row of `meta`: a fault is one of the store's.
use Rattle.std.proofs.Common.{◌≡◌, ◌∷◌, [], ℕ, zero, suc, ◌+◌, true, false, List, None, Some, Ok, Err}
use Rattle.std.proofs.Common.{Result, refl, sym, ap, ◌∙◌, subst, subst₂, slice_get, take, drop, ◌++◌, length, true≢false, arith, ◌≤◌}
use Rattle.std.specs.Prelude.{IfErr, IsErrAnd, is_ok}
use Rattle.std.proofs.lemmas.List.{take_more}
use Rattle.std.proofs.lemmas.Option.{get_or_from_slice_get, slice_get_within}
use Rattle.sqlite_schema.specs.declared.command.Command.TheVariants.{CreateTable}
use Rattle.sqlite_tied.specs.Compute.{everything}
use Rattle.sqlite.specs.Compile.{table_defined_by}
use Rattle.sqlite.specs.Does.{Does, sequence_text}
use Rattle.sqlite.specs.State.{ExecutesIn, ExecutesInside}
use Rattle.sqlite.specs.declared.error.Error.{Error}
use Rattle.sqlite.proofs.Callers.{statement_of}
use Rattle.sqlite_catalog.specs.Change.{created, is_used}
use Rattle.store_tables.specs.Sql.{understood, Row, Schema, State, Table}
use Rattle.store_tables.specs.Contents.{Content, Holds}
use Rattle.store_tables.specs.internal.Contents.{Ran}
use Rattle.store_tables.specs.Names.{table_name}
use Rattle.store_tables.specs.Placed.{HasTables, HasTableAt, IsLeftAlone, TakesClub, tables_of}
use Rattle.store_tables.specs.internal.Put.{on_key}
use Rattle.store_tables.specs.internal.Reading.{IsNoInput}
use Rattle.store_tables.specs.Room.{AreUnused, made_in}
use Rattle.store_tables.specs.internal.Room.{AreBare, MakesHere}
use Rattle.store_tables.specs.Tables.{made_as, standing}
use Rattle.store_tables.specs.internal.Texts.{create_of, put_text}
use Rattle.store_tables.specs.declared.names.Table as of_club
use Rattle.store_tables.specs.declared.names.Table.TheVariants.{Meta}
use Rattle.store_tables.specs.declared.names.Version.{Version}
use Rattle.store_tables.specs.declared.names.Version.TheVariants.{V1, V2, V3}
use Rattle.store_tables.proofs.Proved.{among_tables, creates_here, defined, each_has, is_found, makes_next}
use Rattle.store_sql.proofs.CommitLemmas.{has_meta}
use Rattle.store_tables.proofs.Proved.{put_command, put_plain, puts_meant, source_of, stands_already, updates_of}
use Rattle.store_sql.proofs.RefusedLemmas.{IsQuiet, quiet_create, quiet_upsert, refused_known}

-- ---- the tables that were made so far

-- So many of these tables were made in turn; where the first of them stands, not even it was.
pub record Progress (tables : List of_club.Table) (k : ℕ) (old now : State) : Type 0 where
  pub makes : MakesHere (take k tables) old now
  pub stands : (first : of_club.Table) (rest : List of_club.Table) → tables ≡ first ∷ rest
      → HasTableAt old.now.schema first → (k ≡ 0) × HasTableAt now.now.schema first

-- where a table stands it is not made again
never_made : (table : of_club.Table) (sql : List ℕ) (old new : State) → sql ≡ create_of table
    → HasTableAt old.now.schema table → ¬ Ran sql old new
unfolding ExecutesIn
never_made table sql old new text stands h =
    let ran : Ran (create_of table) old new = subst (λ s. Ran s old new) text h in
    let some = ap is_ok ran.runs.0.1.is in
    true≢false (sym some ∙ stands_already table old.now.schema stands)

-- one more table was made
pub progressed : (tables : List of_club.Table) (k : ℕ) (table : of_club.Table) → slice_get tables k ≡ Some table
    → (sql : List ℕ) → sql ≡ create_of table → (a b c : State) → Progress tables k a b → Ran sql b c
    → Progress tables (k + 1) a c
progressed tables k table at sql text a b c so_far ran =
    let made = makes_next (take k tables) table a b c so_far.makes (subst (λ s. Ran s b c) text ran) in
    record {
      makes = subst (λ l. MakesHere l a c)
          (ap (λ t. take k tables ++ t ∷ []) (sym (get_or_from_slice_get tables k table table at))
          ∙ sym (take_more tables k table (slice_get_within tables k table at))) made;
      stands = λ first rest are has.
          let (none, there) = so_far.stands first rest are has in
          let it : Some table ≡ Some first = sym at ∙ ap (slice_get tables) none ∙ ap (λ l. slice_get l 0) are in
          let same : table ≡ first = cc in
          absurd (never_made first sql b c (text ∙ ap create_of same) there ran);
    }

-- Where the first stands, not all of them are made.
pub never_all : (tables : List of_club.Table) (k : ℕ) (a b : State) → length tables ≤ k → Progress tables k a b
    → (first : of_club.Table) (rest : List of_club.Table) → tables ≡ first ∷ rest → HasTableAt a.now.schema first → ⊥
never_all tables k a b all so_far first rest are stands =
    let (none, there) = so_far.stands first rest are stands in
    let long : length tables ≡ suc (length rest) = ap length are in
    absurd (omega (arith, none, long, all))

-- ---- the first of a club's tables

pub meta_first : (version : Version) → tables_of version ≡ Meta ∷ drop 1 (tables_of version)
meta_first V1 = refl
meta_first V2 = refl
meta_first V3 = refl

pub first_stands : (schema : Schema) → HasTables V1 schema → HasTableAt schema Meta
first_stands schema has = has.0

-- ---- the names that are free

-- those of the tables before the next one, and its own once they are made
free_next : (tables : List of_club.Table) (k : ℕ) (schema : Schema) (table : of_club.Table)
    → slice_get tables k ≡ Some table → AreUnused schema tables
    → AreUnused schema (take k tables) × (is_used (made_in schema (take k tables)) (table_name table) ≡ false)
free_next [] k schema table at unused = absurd (cc)
free_next (t ∷ tables) zero schema table at unused =
    let same : t ≡ table = cc in
    (tt, subst (λ u. is_used schema (table_name u) ≡ false) same unused.0)
free_next (t ∷ tables) (suc k) schema table at (free, stored, counted, rest) =
    let (more, next) = free_next tables k (created schema (made_as t 0)) table at rest in
    ((free, stored, counted, more), next)

-- and their trees, which have no rows
bare_first : (tables : List of_club.Table) (k : ℕ) (schema : Schema) (content : Content) → AreBare schema content tables
    → AreBare schema content (take k tables)
bare_first tables zero schema content bare = tt
bare_first [] (suc k) schema content bare = tt
bare_first (t ∷ tables) (suc k) schema content bare =
    (bare.0, bare_first tables k (created schema (made_as t 0)) content bare.1)

-- ---- a fault of theirs

-- the table that SQLite keeps where one counts its rows
sequence_defined : is_ok (table_defined_by sequence_text) ≡ true
unfolding understood everything
sequence_defined = refl

pub create_known : (tables : List of_club.Table) (k : ℕ) (table : of_club.Table) → slice_get tables k ≡ Some table
    → (sql : List ℕ) → sql ≡ create_of table → (old mid new : State) → Progress tables k old mid → (schema : Schema)
    (content : Content) → AreUnused schema tables → AreBare schema content tables → Holds schema old.now content
    → (e : Error) → ExecutesInside 0 sql [] mid new (Err e) → IsNoInput e
create_known tables k table at sql text old mid new so_far schema content unused bare holds e h why same =
    let (before, free) = free_next tables k schema table at unused in
    let has = (so_far.makes.made schema before content holds (bare_first tables k schema content bare)).schema in
    let is = creates_here table mid.now.schema (ap (λ s. is_used s (table_name table)) has ∙ free) in
    refused_known why (create_of table) [] mid new CreateTable is.command is.plain
    (λ limit mode given.
    subst (λ s. IsQuiet why (Does limit mode given mid.now s None CreateTable)) (sym is.text)
    (quiet_create why limit mode given mid.now (create_of table) (ap is_ok (defined table)) sequence_defined))
    (subst₂ (λ s e. ExecutesInside 0 s [] mid new (Err e)) text same h)

pub put_known : (version : Version) (sql : List ℕ) (params : Row) (old new : State) → sql ≡ put_text (standing Meta)
    → TakesClub version old.now.schema → (e : Error) → ExecutesInside 0 sql params old new (Err e) → IsNoInput e
put_known version sql params old new text takes e h why same =
    let schema = old.now.schema in
    let found_here = each_has schema (λ t s. IsLeftAlone schema (made_as t s.tree)) (tables_of version) takes.club
    takes.clear Meta (among_tables version Meta (has_meta version)) in
    let stands = found_here.0 in
    let there : Table = made_as Meta stands.tree in
    let found = is_found schema Meta stands in
    let meant = puts_meant Meta stands.tree in
    let means = put_text there in
    refused_known why means params old new _
    (put_command there meant schema stands.place found found_here.1.keyed)
    (put_plain there meant schema stands.place found found_here.1.keyed)
    (λ limit mode given.
    quiet_upsert why limit mode given old.now (statement_of means (understood schema means)) stands.place
    (source_of there) (on_key there.primary there.tree (length there.columns) (updates_of there)))
    (subst₂ (λ s e. ExecutesInside 0 s params old new (Err e)) text same h)

-- the fault that is handed on is that of the call
pub handed_on : {T : Type 0} (r : Result T Error) (e : Error) → IsErrAnd r (λ given. given ≡ e) → IsNoInput e
    → IfErr r IsNoInput
handed_on (Ok x) e is known = tt
handed_on (Err given) e is known = subst IsNoInput (sym is) known
