-- What the text of a SELECT of one table means, wherever the table stands in a schema.
use Rattle.std.proofs.Common.{◌≡◌, ℕ, ◌==◌, ◌&&◌, Bool, true, false, List, [], Option, Some, None, refl, sym, ap, subst}
use Rattle.std.proofs.Common.{◌∙◌, map, length, Ok, Err, negsuc, arith, if◌then◌else◌, find as first_that, nat_lt}
use Rattle.std.proofs.Common.{nat_le, ◌^◌}
use Rattle.std.proofs.lemmas.Grind.{common_steps}
use Rattle.std.specs.List.{list_all}
use Rattle.sqlite.proofs.Callers.{IsPlain, command_of}
use Rattle.sqlite.specs.Command.TheVariants.{Select}
use Rattle.sqlite.specs.Listing.{reads_listing, listing_schema, misses_table, if_select}
use Rattle.store_tables.specs.Sql.{understood, Schema, Table}
use Rattle.sqlite_value.specs.declared.keys.Collation.{Collation}
use Rattle.sqlite_value.specs.declared.keys.Key.{Key}
use Rattle.sqlite_value.specs.declared.value.Value.TheVariants.{Int}
use Rattle.sqlite_sql.specs.Query.{inner, end}
use Rattle.sqlite_sql.specs.Term.{Term, lit}
use Rattle.sqlite_ast.specs.declared.Core.{out-Core}
use Rattle.sqlite_ast.specs.declared.Select as select_of
use Rattle.sqlite_schema.specs.declared.command.Command.{Command}
use Rattle.sqlite_schema.specs.declared.command.Returning.{Returning}
use Rattle.sqlite_schema.specs.declared.program.Table.{Table as Let}
use Rattle.sqlite_schema.specs.Names.{table_named, view_named}
use Rattle.sqlite_draft.specs.declared.query.Draft.{Draft}
use Rattle.sqlite_resolve.proofs.ProgramLemmas.{single_named}
use Rattle.sqlite_resolve.specs.declared.compiled.Compiled.{Compiled}
use Rattle.sqlite_resolve.specs.declared.error.CompileError.TheVariants.{Mismatch, NoSuchTable}
use Rattle.sqlite_resolve.specs.Compile.{command, compiled, first, meaning, planned, read, returning, small, timed}
use Rattle.sqlite_resolve.specs.Compile.{with_command}
use Rattle.sqlite_resolve.specs.Lowering.{Checked, and_then}
use Rattle.sqlite_resolve.specs.Program.{Building, Shown, alone, are_named, compound, is_named, lift, level, or_view}
use Rattle.sqlite_resolve.specs.Program.{program, query, query_to, viewing, whole, with}
use Rattle.sqlite_syntax.specs.declared.statement.Parsed.{Parsed}
use Rattle.sqlite_resolve.specs.Scope.{Name}
use Rattle.sqlite_resolve.specs.Select.{constant_or, named, paging}
use Rattle.sqlite_resolve.specs.Terms.{number}
use Rattle.store_tables.specs.internal.Put.{selects}
use Rattle.store_tables.proofs.PlacedTerms.{StandsAt, is_known, alone as alone_in, sort_written}
use Rattle.store_tables.proofs.PlacedQueries.{AreKnown, Asked, core_in, core_out, named_by, named_is, named_none}
use Rattle.store_tables.proofs.PlacedQueries.{parsed_in, select_in, select_out, source_out}
use Rattle.sqlite_schema.specs.declared.program.Program.{Program}

-- neither LIMIT nor OFFSET
abbrev pub whole_page : Term × Term
whole_page = (lit (Int (negsuc 0)), number 0)

abbrev pub draft_of : ℕ → List Term → List Term → List (Term × Key) → Draft
draft_of tree filter project order = record {
  from = inner tree end;
  filter = filter;
  group = None;
  project = project;
  distinct = false;
  collations = [];
  order = order;
  limit = lit (Int (negsuc 0));
  offset = number 0;
}

-- ---- from the plan of a statement to what its text is understood as

abbrev pub Plan : Type 0
Plan = List Name × (Command × Option Returning)

compiled_as : (s : Schema) (sql : List ℕ) (p : Parsed) (plan : Checked Plan) → first sql ≡ Ok p → planned s p ≡ plan
    → compiled s sql ≡ and_then plan (λ x. Ok (with_command p x))
unfolding compiled
compiled_as s sql p plan parsed plans =
    (λ i. and_then (parsed i) (λ q. and_then (planned s q) (λ x. Ok (with_command q x))))
    ∙ (λ i. and_then (plans i) (λ x. Ok (with_command p x)))

-- a text that is understood under a schema by itself
understood_so : (s : Schema) (sql : List ℕ) (c : Compiled) → compiled s sql ≡ Ok c → understood s sql ≡ Ok c
unfolding understood
understood_so s sql c is i = if misses_table (is i) then if_select (compiled listing_schema sql) else is i

pub understood_as : (s : Schema) (sql : List ℕ) (p : Parsed) (plan : Plan) → first sql ≡ Ok p → planned s p ≡ Ok plan
    → understood s sql ≡ Ok (with_command p plan)
understood_as s sql p plan parsed plans =
    understood_so s sql (with_command p plan) (compiled_as s sql p (Ok plan) parsed plans)

-- ---- from one SELECT to the query, and to the command

module _ (s : Schema) (a : Asked) where
  abbrev deeper : Schema → select_of.Select → Building Shown
  deeper = query_to 15

  abbrev shown_alone : (Shown × Schema) × List Let → Checked (Shown × List Let)
  shown_alone r = Ok (r.0.0, r.1)

  abbrev answered : Checked Shown → Checked (Shown × List Let)
  answered found = and_then found (λ x. Ok (x, []))

  -- what is made of one SELECT, where a view might be meant
  abbrev viewed : Checked Shown → Checked (Shown × List Let)
  viewed found =
      and_then (or_view deeper (viewing deeper s (core_in a) (map (sort_written a.falls) a.sorted) whole_page 63) s s found [])
      shown_alone

  module _ (found : Checked Shown) (is : named s (core_in a) (map (sort_written a.falls) a.sorted) whole_page ≡ found)
      (own : viewed found ≡ answered found) where
    are_tables : are_named (out-Core (core_in a)).from ≡ true
    are_tables = (λ i. are_named (core_out a i).from) ∙ (λ i. is_named (source_out a i).origin && true)

    alone_is : alone deeper s (core_in a) (map (sort_written a.falls) a.sorted) whole_page [] ≡ answered found
    unfolding alone
    alone_is =
        (λ i.
        and_then (single_named deeper s (core_in a) (map (sort_written a.falls) a.sorted) whole_page [] are_tables i) shown_alone)
        ∙ (λ i. viewed (is i)) ∙ own

    whole_is : whole deeper s (select_in a) [] ≡ answered found
    unfolding whole paging constant_or
    whole_is =
        (λ i.
        and_then (lift (and_then (constant_or s (lit (Int (negsuc 0))) (select_out a i).limit) (λ limit.
        and_then (constant_or s (number 0) (select_out a i).offset) (pages limit))) []) (λ page.
        (if length (select_out a i).others == 0
        then alone deeper s (select_out a i).first (select_out a i).order page.0
        else compound deeper s (select_in a) page.0) page.1))
        ∙ alone_is
      where
        pages : Term → Term → Checked (Term × Term)
        pages limit offset = Ok (limit, offset)

    query_is : query s (select_in a) ≡ answered found
    unfolding query query_to level with
    query_is =
        (λ i.
        and_then (with deeper s (select_out a i).with []) (λ longer. whole deeper longer.0 (select_in a) longer.1))
        ∙ whole_is

    read_by : read s (select_in a)
        ≡ and_then (answered found) (λ q. and_then (program s q.1 q.0.0) (λ p. Ok (Select p q.0.1)))
    unfolding read
    read_by i = and_then (query_is i) (λ q. and_then (program s q.1 q.0.0) (λ p. Ok (Select p q.0.1)))

  module _ (sql : List ℕ) (parsed : first sql ≡ Ok (parsed_in a)) (did : Checked Command)
      (reads : read s (select_in a) ≡ did) where
    abbrev planned_by : Checked Plan
    planned_by = and_then (and_then did (λ c. Ok (c, None))) (λ c. Ok ([], c))

    planned_is : planned s (parsed_in a) ≡ planned_by
    unfolding planned meaning returning command timed
    planned_is i = and_then (and_then (reads i) (λ c. Ok (c, None))) (λ c. Ok ([], c))

    compiled_by : compiled s sql ≡ and_then planned_by (λ plan. Ok (with_command (parsed_in a) plan))
    compiled_by = compiled_as s sql (parsed_in a) planned_by parsed planned_is

-- ---- the types of the query

abbrev pub program_of : ℕ → List Term → List Term → List (Term × Key) → Program
program_of tree filter project order = record { lets = []; body = selects tree filter project order }

if_accepted : (accepted : Bool) (one other : Program)
    → (if accepted then Ok other else Err Mismatch)
    ≡ and_then (if accepted then Ok one else Err Mismatch) (λ p. Ok other)
if_accepted true one other = refl
if_accepted false one other = refl

module _ (s : Schema) (table : Table) (small : nat_le (2 ^ 31) table.tree ≡ false)
    (by_tree : first_that (λ (t : Table). t.tree == table.tree) s.tables ≡ Some table) (filter project : List Term)
    (order : List (Term × Key)) where
  pub program_is : program s [] (draft_of table.tree filter project order)
      ≡ and_then (program (alone_in table) [] (draft_of 0 filter project order))
      (λ p. Ok (program_of table.tree filter project order))
  unfolding program
  program_is = rw (small, by_tree) (if_accepted _ _ _)

-- ---- the text

-- What is found by computing of the text, with no schema.
pub record IsMeant (table : Table) (a : Asked) (sql : List ℕ) (filter project : List Term) (order : List (Term × Key))
    (names : List Name) : Type 0 where
  pub how : List (Option Collation)
  pub parsed : first sql ≡ Ok (parsed_in a)
  pub known : AreKnown table a
  pub drafted : (place tree : ℕ)
      → named_by table a place tree whole_page ≡ Ok (draft_of tree filter project order, names, how)
  pub typed : program (alone_in table) [] (draft_of 0 filter project order) ≡ Ok (program_of 0 filter project order)

-- It is found so, each part by computing.
pub meant_so : (table : Table) (a : Asked) (sql : List ℕ) (filter project : List Term) (order : List (Term × Key))
    (names : List Name) (how : List (Option Collation)) → first sql ≡ Ok (parsed_in a)
    → list_all (is_known table) a.shown ≡ true → list_all (is_known table) a.tested ≡ true
    → list_all (is_known table) a.sorted ≡ true
    → ((place tree : ℕ)
    → named_by table a place tree whole_page ≡ Ok (draft_of tree filter project order, names, how))
    → program (alone_in table) [] (draft_of 0 filter project order) ≡ Ok (program_of 0 filter project order)
    → IsMeant table a sql filter project order names
meant_so table a sql filter project order names how parsed shown tested sorted drafted typed = record {
  how = how;
  parsed = parsed;
  known = record { shown = shown; tested = tested; sorted = sorted };
  drafted = drafted;
  typed = typed;
}

-- The table stands at this place, and its name and its tree find it.
pub record IsFound (s : Schema) (place : ℕ) (table : Table) (called : Name) : Type 0 where
  pub stands : StandsAt s place table
  pub named : table_named s called ≡ Some place
  pub by_tree : first_that (λ (t : Table). t.tree == table.tree) s.tables ≡ Some table

pub stored : (tree : ℕ) → nat_lt tree (2 ^ 31) ≡ true → nat_le (2 ^ 31) tree ≡ false
stored tree small = grind (arith, common_steps, small)

module _ (table : Table) (a : Asked) (sql : List ℕ) (filter project : List Term) (order : List (Term × Key))
    (names : List Name) (meant : IsMeant table a sql filter project order names) (s : Schema) (place : ℕ)
    (found : IsFound s place table a.table) where
  abbrev does : Command
  does = Select (program_of table.tree filter project order) names

  abbrev compiles : Compiled
  compiles = with_command (parsed_in a) ([], (does, None))

  read_is : read s (select_in a) ≡ Ok does
  read_is =
      read_by s a (Ok (draft_of table.tree filter project order, names, meant.how)) drafted refl
      ∙ (λ i. and_then (typed i) selecting)
    where
      drafted : named s (core_in a) (map (sort_written a.falls) a.sorted) whole_page
          ≡ Ok (draft_of table.tree filter project order, names, meant.how)
      drafted =
          named_is table a meant.known s place found.stands found.named whole_page ∙ meant.drafted place table.tree

      selecting : Program → Checked Command
      selecting p = Ok (Select p names)

      typed : program s [] (draft_of table.tree filter project order) ≡ Ok (program_of table.tree filter project order)
      typed =
          program_is s table (stored table.tree found.stands.small) found.by_tree filter project order
          ∙ (λ i. and_then (meant.typed i) (λ p. Ok (program_of table.tree filter project order)))

  compiled_is : compiled s sql ≡ Ok compiles
  compiled_is = compiled_by s a sql meant.parsed (Ok does) read_is

  understood_is : understood s sql ≡ Ok compiles
  understood_is = understood_so s sql compiles compiled_is

  pub command_is : command_of (understood s sql) ≡ Select (program_of table.tree filter project order) names
  command_is = ap command_of understood_is

  pub plain_is : IsPlain (understood s sql)
  plain_is = subst IsPlain (sym understood_is) (refl, refl)

  pub unlisted_is : reads_listing s sql ≡ false
  unlisted_is = ap misses_table compiled_is

-- Where no table or view has the name, the text does nothing.
pub compiled_none : (s : Schema) (a : Asked) → table_named s a.table ≡ None → view_named s a.table ≡ None
    → (sql : List ℕ) → first sql ≡ Ok (parsed_in a) → compiled s sql ≡ Err NoSuchTable
compiled_none s a no_table no_view sql parsed =
    compiled_by s a sql parsed (Err NoSuchTable)
    (read_by s a (Err NoSuchTable) (named_none s a no_table no_view whole_page) refl)
