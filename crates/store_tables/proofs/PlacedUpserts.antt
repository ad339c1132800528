-- What the text that puts a row means, wherever its table stands in a schema. What is found by computing is found of
-- the text, with no schema.
use Rattle.std.proofs.Common.{◌≡◌, ℕ, ◌==◌, false, List, [], ◌∷◌, Option, Some, None, Ok, refl, sym, ap, subst, ◌∙◌}
use Rattle.std.proofs.Common.{length, map, slice_get, option_map, zero, suc, ◌+◌, not, ◌&&◌, Err, true, if◌then◌else◌}
use Rattle.std.proofs.Common.{option_and_then, unwrap_or}
use Rattle.sqlite.proofs.Callers.{IsPlain, command_of}
use Rattle.store_tables.specs.Sql.{understood, Schema, Table}
use Rattle.sqlite_schema.specs.declared.command.Command.{Command}
use Rattle.sqlite_schema.specs.declared.command.Command.TheVariants.{InsertOr}
use Rattle.sqlite_schema.specs.declared.command.Conflict.TheVariants.{Abort}
use Rattle.sqlite_schema.specs.declared.command.Upsert.{Upsert}
use Rattle.sqlite_schema.specs.declared.program.Program.{Program}
use Rattle.sqlite_schema.specs.Names.{same_name}
use Rattle.sqlite_sql.specs.Term.{Term, col, op2}
use Rattle.sqlite_sql.specs.declared.ops.BinaryOp.TheVariants.{Compare}
use Rattle.sqlite_sql.specs.declared.ops.CompareOp.TheVariants.{Eq}
use Rattle.sqlite_value.specs.declared.keys.Collation.TheVariants.{Binary}
use Rattle.sqlite_draft.specs.declared.query.Draft.{Draft}
use Rattle.sqlite_resolve.specs.declared.compiled.Compiled.{Compiled}
use Rattle.sqlite_resolve.specs.declared.error.CompileError.TheVariants.{NoSuchTable, Misuse}
use Rattle.sqlite_resolve.specs.Compile.{first, new_rows, timed, with_command, planned, meaning, command, insert_or}
use Rattle.sqlite_resolve.specs.Compile.{insert_or_abort, returning, shows, small}
use Rattle.sqlite_resolve.specs.Given.{do_update, given, key_at, key_meant, update, upsert, upserts}
use Rattle.sqlite_resolve.specs.Lowering.{Checked, and_then, or_else}
use Rattle.sqlite_resolve.specs.Program.{program}
use Rattle.sqlite_resolve.specs.Write.{places}
use Rattle.std.specs.List.{list_all}
use Rattle.sqlite_tied.specs.Compute.{everything}
use Rattle.store_tables.specs.internal.Put.{on_key}
use Rattle.store_tables.specs.Tables.{made_as}
use Rattle.store_tables.specs.internal.Texts.{key_names, names_of, put_text, parameters_of}
use Rattle.store_tables.specs.declared.names.Table as of_club
use Rattle.store_tables.specs.declared.names.Table.TheVariants.{Meta}
use Rattle.store_tables.proofs.ExcludedLemmas.{is_of_table, new_of, new_row, update_same, updates_to}
use Rattle.store_tables.proofs.Meanings.{source_of, updates_of}
use Rattle.store_tables.proofs.PlacedTerms.{alone}
use Rattle.store_tables.proofs.PlacedTexts.{IsFound, draft_of, program_is, program_of, stored, understood_as}
use Rattle.sqlite_ast.specs.declared.Conflict.TheVariants as conflict
use Rattle.sqlite_ast.specs.declared.Expr.{Expr}
use Rattle.sqlite_ast.specs.declared.Expr.TheVariants as expr
use Rattle.sqlite_ast.specs.declared.Rows.{Rows}
use Rattle.sqlite_ast.specs.declared.Rows.TheVariants as rows
use Rattle.sqlite_ast.specs.declared.Statement.{Statement}
use Rattle.sqlite_ast.specs.declared.Statement.TheVariants as statement
use Rattle.sqlite_ast.specs.declared.Upsert as written
use Rattle.sqlite_syntax.specs.declared.statement.Parsed.{Parsed}
use Rattle.sqlite_resolve.specs.Body.{table_at}

-- ---- the parts of a text that puts a row

abbrev written_rest : List written.Upsert
written_rest = []

abbrev parameters_from : ℕ → ℕ → List Expr
parameters_from k zero = []
parameters_from k (suc n) = expr.Parameter k ∷ parameters_from (k + 1) n

abbrev rows_of : Table → Rows
rows_of table = rows.Values (parameters_from 1 (length table.columns) ∷ [])

abbrev clause_of : Table → written.Upsert
clause_of table = updates_to (key_names table) (names_of table)

abbrev statement_in : Table → Statement
statement_in table =
    statement.Insert conflict.Abort table.name (names_of table) (rows_of table) (clause_of table ∷ []) []

abbrev parsed_in : Table → Parsed
parsed_in table = record {
  statement = statement_in table;
  names = parameters_of table;
  formats = [];
  start = 0;
  end = length (put_text table);
  tail = length (put_text table);
}

-- how many slots the parameters have
abbrev base : Table → ℕ
base table = small (parameters_of table) + small []

-- the row with the rowid that is given
abbrev by_rowid : Table → List Term
by_rowid table = op2 (Compare Eq Binary) (col 1 0) (col 0 (length table.columns)) ∷ []

-- What is found by computing of the text that puts a row of this table.
pub record IsPutMeant (table : Table) : Type 0 where
  pub parsed : first (put_text table) ≡ Ok (parsed_in table)
  pub timeless : table.stamps.formats ≡ []
  pub targeted : (length (key_names table) == 0) ≡ false
  pub sets : (length (map new_of (names_of table)) == 0) ≡ false
  pub all : list_all (is_of_table (given table (length table.columns))) (names_of table) ≡ true
  pub other : same_name table.name new_row ≡ false
  pub based : base table ≡ length table.columns
  pub drafted : (at : ℕ) → do_update (alone table) at table (length table.columns) (clause_of table)
      ≡ Ok (draft_of table.tree (by_rowid table) (updates_of table) [])
  pub typed : program (alone table) [] (draft_of 0 (by_rowid table) (updates_of table) [])
      ≡ Ok (program_of 0 (by_rowid table) (updates_of table) [])
  pub sourced : (s : Schema) → new_rows s table (length table.columns) (names_of table) (rows_of table)
      ≡ Ok (source_of table)
  pub keys : places table (key_names table) ≡ Ok table.primary

-- ---- the text under a schema

module _ (table : Table) (meant : IsPutMeant table) (s : Schema) (place : ℕ) (found : IsFound s place table table.name)
    (keyed : key_at s table table.primary ≡ Ok table.primary) where
  abbrev width : ℕ
  width = length table.columns

  abbrev does : Command
  does = InsertOr place Abort (source_of table) (on_key table.primary table.tree width (updates_of table))

  abbrev compiles : Compiled
  compiles = with_command (parsed_in table) ([], (does, None))

  abbrev draft : Draft
  draft = draft_of table.tree (by_rowid table) (updates_of table) []

  timeless : timed s [] (statement_in table) ≡ []
  unfolding timed
  timeless =
      (λ i. unwrap_or (option_map (λ t. t.stamps.formats) (option_and_then (slice_get s.tables) (found.named i))) [])
      ∙ (λ i. unwrap_or (option_map (λ t. t.stamps.formats) (found.stands.at i)) [])
      ∙ meant.timeless

  drafted_is : do_update s place table (base table) (clause_of table) ≡ Ok draft
  drafted_is =
      ap (λ n. do_update s place table n (clause_of table)) meant.based
      ∙ update_same s (alone table) place width table (key_names table) (names_of table) meant.all meant.other
      ∙ meant.drafted place

  key_is : key_meant s table (key_names table) ≡ Ok (Some table.primary)
  unfolding key_meant
  key_is =
      (λ i. if meant.targeted i then Ok None else
      and_then (meant.keys i) (λ at. and_then (key_at s table at) (λ key. Ok (Some key))))
      ∙ (λ i. and_then (keyed i) (λ key. Ok (Some key)))

  program_so : program s [] draft ≡ Ok (program_of table.tree (by_rowid table) (updates_of table) [])
  program_so =
      program_is s table (stored table.tree found.stands.small) found.by_tree (by_rowid table) (updates_of table) []
      ∙ (λ i. and_then (meant.typed i) (λ p. Ok (program_of table.tree (by_rowid table) (updates_of table) [])))

  upserts_is : upserts s place table (base table) (clause_of table ∷ [])
      ≡ Ok (on_key table.primary table.tree width (updates_of table))
  unfolding upserts upsert update
  upserts_is =
      (λ i.
      if meant.targeted i && not (length written_rest == 0) then Err Misuse else
      and_then (and_then (key_meant s table (key_names table)) (λ key.
      and_then (if meant.sets i then Ok None else updated (do_update s place table (base table) (clause_of table)))
      (with_key key))) listed)
      ∙ (λ i. and_then (and_then (key_is i) (λ key. and_then (updated (drafted_is i)) (with_key key))) listed)
      ∙ (λ i. and_then (and_then (and_then (program_so i) some_program) (with_key (Some table.primary))) listed)
    where
      some_program : Program → Checked (Option Program)
      some_program p = Ok (Some p)

      updated : Checked Draft → Checked (Option Program)
      updated d = and_then d (λ x. and_then (program s [] x) some_program)

      with_key : Option (List ℕ) → Option Program → Checked Upsert
      with_key key p = Ok (record { target = key; update = p })

      listed : Upsert → Checked (List Upsert)
      listed it = Ok (it ∷ [])

  source_is : new_rows s table (base table) (names_of table) (rows_of table) ≡ Ok (source_of table)
  source_is = ap (λ n. new_rows s table n (names_of table) (rows_of table)) meant.based ∙ meant.sourced s

  insert_is : command s [] (base table) (statement_in table) ≡ Ok does
  unfolding command insert_or_abort insert_or
  insert_is =
      (λ i. and_then (or_else (found.named i) NoSuchTable) (λ at. and_then (table_at s at) (λ t. on at t)))
      ∙ (λ i. and_then (or_else (found.stands.at i) NoSuchTable) (λ t. on place t))
      ∙ (λ i. and_then (source_is i)
      (λ source. and_then (upserts_is i) (λ found. Ok (InsertOr place Abort source found))))
    where
      on : ℕ → Table → Checked Command
      on at t =
          and_then (new_rows s t (base table) (names_of table) (rows_of table))
          (λ source. and_then (upserts s at t (base table) (clause_of table ∷ []))
          (λ found. Ok (InsertOr at Abort source found)))

  planned_is : planned s (parsed_in table) ≡ Ok ([], (does, None))
  unfolding planned meaning returning shows
  planned_is =
      (λ i. and_then (meaning s (parsed_in table) (small (parameters_of table) + small (timeless i)))
      (λ found. Ok (timeless i, found)))
      ∙ (λ i. and_then (and_then (insert_is i) (λ c. Ok (c, None))) (λ found. Ok ([], found)))

  understood_is : understood s (put_text table) ≡ Ok compiles
  understood_is = understood_as s (put_text table) (parsed_in table) ([], (does, None)) meant.parsed planned_is

  pub put_command : command_of (understood s (put_text table)) ≡ does
  put_command = ap command_of understood_is

  pub put_plain : IsPlain (understood s (put_text table))
  put_plain = subst IsPlain (sym understood_is) (refl, refl)

-- ---- the text of each table

pub puts_meant : (table : of_club.Table) (tree : ℕ) → IsPutMeant (made_as table tree)
unfolding everything
puts_meant Meta tree = record {
  parsed = refl;
  timeless = refl;
  targeted = refl;
  sets = refl;
  all = refl;
  other = refl;
  based = refl;
  drafted = λ at. refl;
  typed = refl;
  sourced = λ s. refl;
  keys = refl;
}
puts_meant table tree = record {
  parsed = refl;
  timeless = refl;
  targeted = refl;
  sets = refl;
  all = refl;
  other = refl;
  based = refl;
  drafted = λ at. refl;
  typed = refl;
  sourced = λ s. refl;
  keys = refl;
}
