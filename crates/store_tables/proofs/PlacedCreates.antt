-- The text that makes a table of a club makes it wherever its name is free, and makes nothing where it stands.
use Rattle.std.proofs.Common.{◌≡◌, ℕ, true, false, List, [], Ok, Err, Option, Some, None, refl, sym, ap, subst, ◌∙◌}
use Rattle.std.proofs.Common.{inl, inr, length, ◌==◌, not, ◌&&◌, ◌+◌, option_map, slice_get, Bool, is_ok, is_some}
use Rattle.std.proofs.Common.{if◌then◌else◌, option_and_then, unwrap_or}
use Rattle.std.specs.Option.{option_or}
use Rattle.std.proofs.lemmas.Bool.{cases_Bool, or_parts}
use Rattle.sqlite.proofs.Callers.{IsPlain, command_of, statement_of}
use Rattle.sqlite.specs.Command.TheVariants.{CreateTable as MakeTable, Nothing}
use Rattle.sqlite.specs.Listing.{if_select, listing_schema, reads_listing}
use Rattle.store_tables.specs.Sql.{understood, Schema}
use Rattle.sqlite_ast.specs.declared.CreateTable.{CreateTable}
use Rattle.sqlite_ast.specs.declared.Statement.{Statement}
use Rattle.sqlite_ast.specs.declared.Statement.TheVariants as written
use Rattle.sqlite_catalog.specs.Change.{is_used}
use Rattle.sqlite_resolve.specs.Compile.{command, compiled, create_table, creates, first, is_attached, is_reserved}
use Rattle.sqlite_resolve.specs.Compile.{meaning, planned, returning, small, stands_on_other, timed, with_command}
use Rattle.sqlite_resolve.specs.Define as define
use Rattle.sqlite_resolve.specs.Lowering.{Checked, and_then}
use Rattle.sqlite_resolve.specs.Scope.{Name}
use Rattle.sqlite_resolve.specs.declared.error.CompileError.TheVariants.{Exists, Misuse, Unsupported}
use Rattle.sqlite_schema.specs.declared.command.Command.{Command}
use Rattle.sqlite_schema.specs.declared.command.Returning.{Returning}
use Rattle.sqlite_syntax.specs.declared.statement.Parsed.{Parsed}
use Rattle.sqlite_schema.specs.Names.{index_named, table_named, view_named}
use Rattle.sqlite_tied.specs.Compute.{everything}
use Rattle.store_tables.proofs.PlacedTexts.{understood_as}
use Rattle.store_tables.specs.Names.{table_name}
use Rattle.store_tables.specs.Placed.{HasTableAt}
use Rattle.store_tables.specs.internal.Texts.{create_of}
use Rattle.store_tables.specs.declared.names.Table as of_club
use Rattle.store_tables.specs.declared.names.Table.TheVariants.{Meta}

-- ---- what the text of a table is, in whatever schema

-- what is made of a definition, in whatever schema
abbrev made_from : List (List ℕ) → CreateTable → Checked Command
made_from formats def =
    and_then (define.table formats def) (λ t.
    if length t.computed == length t.stamps.places && not def.resolves then Ok MakeTable else Err Unsupported)

-- the statement makes a table of this name, and fails where one stands
record IsMaking (statement : Statement) (name : List ℕ) (formats : List (List ℕ)) : Type 0 where
  def : CreateTable
  is : statement ≡ written.CreateTable def
  named : def.name ≡ name
  strict : def.if_missing ≡ false
  free : is_reserved def.name ≡ false
  made : made_from formats def ≡ Ok MakeTable

abbrev makes_by : Statement → List ℕ → List (List ℕ) → Type 0
makes_by (written.CreateTable def) name formats =
    (def.name ≡ name) × (def.if_missing ≡ false) × (is_reserved def.name ≡ false)
    × (made_from formats def ≡ Ok MakeTable)
makes_by _ name formats = ⊥

is_making : (statement : Statement) (name : List ℕ) (formats : List (List ℕ)) → makes_by statement name formats
    → IsMaking statement name formats
is_making (written.CreateTable def) name formats (named, strict, free, made) =
    record { def = def; is = refl; named = named; strict = strict; free = free; made = made }
is_making _ name formats makes = absurd makes

abbrev plan : List Name × (Command × Option Returning)
plan = ([], (MakeTable, None))

-- the text is that of such a statement, and of it alone
abbrev reads_making : Checked Parsed → (name sql : List ℕ) → Type 0
reads_making (Ok p) name sql =
    makes_by p.statement name p.formats × (statement_of sql (Ok (with_command p plan)) ≡ sql)
reads_making (Err e) name sql = ⊥

making : (table : of_club.Table) → reads_making (first (create_of table)) (table_name table) (create_of table)
unfolding first everything
making Meta = ((refl, refl, refl, refl), refl)
making _ = ((refl, refl, refl, refl), refl)

-- ---- what fails in a part fails

module _ {A B : Type 0} where
  fails_first : (r : Checked A) (f : A → Checked B) → is_ok r ≡ false → is_ok (and_then r f) ≡ false
  fails_first (Ok a) f fails = absurd (let x = fails in cc)
  fails_first (Err e) f fails = refl

  fails_then : (r : Checked A) (f : A → Checked B) → ((a : A) → is_ok (f a) ≡ false) → is_ok (and_then r f) ≡ false
  fails_then (Ok a) f fails = fails a
  fails_then (Err e) f fails = refl

-- ---- the name is taken

abbrev freed : (reserved missing : Bool) (table view index : Option ℕ) → Checked Bool
freed reserved missing table view index =
    if reserved then Err Misuse
    else
    (if is_some index then Err Exists
    else (if is_some (option_or table view) then (if missing then Ok false else Err Exists) else Ok true))

not_freed : (reserved missing : Bool) (table view index : Option ℕ) → missing ≡ false → is_some table ≡ true
    → is_ok (freed reserved missing table view index) ≡ false
not_freed true missing table view index strict stands = refl
not_freed false missing table view (Some i) strict stands = refl
not_freed false false (Some table) view None strict stands = refl
not_freed false false None view None strict stands = absurd (let x = stands in cc)
not_freed false true table view None strict stands = absurd (let x = strict in cc)

not_made : (schema : Schema) (formats : List (List ℕ)) (def : CreateTable) → def.if_missing ≡ false
    → is_some (table_named schema def.name) ≡ true → is_ok (create_table schema formats def) ≡ false
unfolding create_table creates
not_made schema formats def strict stands = elim (cases_Bool (is_attached schema def.name)) [
  | inl attached ↦ rw attached refl
  | inr free ↦ rw free
      (fails_first _ _ (not_freed (is_reserved def.name) def.if_missing
      (table_named schema def.name) _ _ strict stands))
]

module _ (schema : Schema) (name : List ℕ) (stands : is_some (table_named schema name) ≡ true) where
  no_command : (base : ℕ) (statement : Statement) (formats : List (List ℕ)) → IsMaking statement name formats
      → is_ok (command schema formats base statement) ≡ false
  unfolding command
  no_command base statement formats makes =
      rw makes.is
      (not_made schema formats makes.def makes.strict
      (subst (λ n. is_some (table_named schema n) ≡ true) (sym makes.named) stands))

  no_text : (read : Checked Parsed) (sql : List ℕ) → first sql ≡ read → reads_making read name sql
      → is_ok (compiled schema sql) ≡ false
  unfolding compiled planned meaning
  no_text (Ok p) sql is makes =
      rw is
      (fails_first _ _ (fails_first _ _ (fails_then (returning schema _ p.statement) _ (λ shown.
      fails_first _ _
      (no_command _ p.statement p.formats (is_making p.statement name p.formats makes.0))))))
  no_text (Err e) sql is makes = absurd makes

no_listing : (table : of_club.Table) → is_ok (if_select (compiled listing_schema (create_of table))) ≡ false
unfolding everything listing_schema
no_listing Meta = refl
no_listing _ = refl

-- Where a table of the name stands, the text makes none.
pub made_once : (table : of_club.Table) (schema : Schema) → is_some (table_named schema (table_name table)) ≡ true
    → is_ok (understood schema (create_of table)) ≡ false
unfolding understood
made_once table schema stands =
    let plain : is_ok (compiled schema (create_of table)) ≡ false =
    no_text schema (table_name table) stands (first (create_of table)) (create_of table) refl (making table) in
    elim (cases_Bool (reads_listing schema (create_of table))) [
      | inl lists ↦ rw lists (no_listing table)
      | inr plainly ↦ rw plainly plain
    ]

pub stands_already : (table : of_club.Table) (schema : Schema) → HasTableAt schema table
    → is_ok (understood schema (create_of table)) ≡ false
stands_already table schema stands = made_once table schema (ap is_some stands.named)

-- ---- where its name is free

none_of : {X : Type 0} (o : Option X) → is_some o ≡ false → o ≡ None
none_of None h = refl
none_of (Some x) h = absurd cc

-- no table, index or view has the name
pub record IsFree (schema : Schema) (name : List ℕ) : Type 0 where
  pub table : table_named schema name ≡ None
  pub index : index_named schema name ≡ None
  pub view : view_named schema name ≡ None

pub is_free : (schema : Schema) (name : List ℕ) → is_used schema name ≡ false → IsFree schema name
is_free schema name unused =
    let both = or_parts _ _ unused in
    let first = or_parts _ _ both.0 in
    record {
      table = none_of (table_named schema name) first.0;
      index = none_of (index_named schema name) first.1;
      view = none_of (view_named schema name) both.1;
    }

-- Where the name is free, the text makes the table and nothing else.
pub record CreatesHere (table : of_club.Table) (schema : Schema) : Type 0 where
  pub command : command_of (understood schema (create_of table)) ≡ MakeTable
  pub plain : IsPlain (understood schema (create_of table))
  pub text : statement_of (create_of table) (understood schema (create_of table)) ≡ create_of table

module _ (schema : Schema) (formats : List Name) (def : CreateTable) (free : IsFree schema def.name)
    (plain : is_reserved def.name ≡ false) where
  create_is : create_table schema formats def ≡ made_from formats def
  unfolding create_table creates is_attached
  create_is i =
      if unwrap_or (option_map (λ v. stands_on_other def.name v.foreign)
      (option_and_then (slice_get schema.views) (free.view i))) false then Err Unsupported else
      and_then (if plain i then Err Misuse else (if is_some (free.index i) then Err Exists else
      (if is_some (option_or (free.table i) (free.view i)) then (if def.if_missing then Ok false else Err Exists)
      else Ok true))) (λ is_new. if is_new then made_from formats def else Ok Nothing)

module _ (schema : Schema) (p : Parsed) (name : List ℕ) (makes : IsMaking p.statement name p.formats)
    (free : IsFree schema name) where
  planned_is : planned schema p ≡ Ok plan
  unfolding planned meaning returning command timed
  planned_is =
      (λ i.
      let formats = timed schema p.formats (makes.is i) in
      and_then (and_then (returning schema (small p.names + small formats) (makes.is i)) (λ shown.
      and_then (command schema p.formats (small p.names + small formats) (makes.is i)) (λ c. Ok (c, shown))))
      (λ found. Ok (formats, found)))
      ∙ (λ i. and_then (and_then (commanded i) (λ c. Ok (c, None))) (λ found. Ok ([], found)))
    where
      commanded : create_table schema p.formats makes.def ≡ Ok MakeTable
      commanded =
          create_is schema p.formats makes.def (subst (IsFree schema) (sym makes.named) free) makes.free ∙ makes.made

creates_by : (table : of_club.Table) (schema : Schema) → IsFree schema (table_name table) → (read : Checked Parsed)
    → first (create_of table) ≡ read → reads_making read (table_name table) (create_of table) → CreatesHere table schema
creates_by table schema free (Err e) is makes = absurd makes
creates_by table schema free (Ok p) is makes = record {
  command = ap command_of understood_is;
  plain = subst IsPlain (sym understood_is) (refl, refl);
  text = ap (statement_of (create_of table)) understood_is ∙ makes.1;
}
  where
    planned_so : planned schema p ≡ Ok plan
    planned_so =
        planned_is schema p (table_name table) (is_making p.statement (table_name table) p.formats makes.0) free

    understood_is : understood schema (create_of table) ≡ Ok (with_command p plan)
    understood_is = understood_as schema (create_of table) p plan is planned_so

pub creates_here : (table : of_club.Table) (schema : Schema) → is_used schema (table_name table) ≡ false
    → CreatesHere table schema
creates_here table schema unused =
    creates_by table schema (is_free schema (table_name table) unused) (first (create_of table)) refl (making table)
