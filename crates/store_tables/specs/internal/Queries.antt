-- The meaning of a SELECT statement: by its grammar under any schema, and its rows under one schema. No promise of the
-- program rests on these definitions.
use Rattle.std.specs.Prelude.{◌≡◌, ℕ, ℤ, ◌-◌, Bool, true, false, List, [], ◌∷◌, Some, Ok, Err, slice_get}
use Rattle.std.specs.List.{list_all}
use Rattle.std.specs.declared.cmp.Ordering.{Ordering}
use Rattle.sqlite_ast.specs.declared.Statement.{Statement}
use Rattle.sqlite_ast.specs.declared.Statement.TheVariants as written
use Rattle.sqlite_syntax.specs.declared.statement.Parsed.{Parsed}
use Rattle.sqlite_resolve.specs.Lowering.{Checked}
use Rattle.sqlite_resolve.specs.Compile.{first}
use Rattle.sqlite_value.specs.declared.keys.Key.{Key}
use Rattle.sqlite.specs.declared.types.Value.TheVariants.{Int}
use Rattle.sqlite.specs.Order.{Row}
use Rattle.sqlite.specs.Tree.{Trees}
use Rattle.sqlite.specs.Table.{Table}
use Rattle.sqlite.specs.Schema.{Schema}
use Rattle.sqlite.specs.Command.TheVariants.{Select}
use Rattle.sqlite.specs.Listing.{understood, reads_listing}
use Rattle.sqlite.proofs.Callers.{IsPlain, command_of}
use Rattle.sqlite_sql.specs.Term.{Term, eval_all, holds}
use Rattle.sqlite_sql.specs.Program.{overlay}
use Rattle.sqlite_sql.specs.Query.{output, output_cmp, key_cmp}
use Rattle.sqlite_trees.specs.Tree.{rowid}
use Rattle.store_tables.specs.Content.{cells, same_key}
use Rattle.store_tables.specs.internal.Put.{selects}
use Rattle.store_tables.specs.internal.Reading.{by_columns, by_first_falling, rising}
use Rattle.store_tables.specs.internal.Texts.{all_text, ids_text, by_first_text, last_text}

-- ---- by the grammar

abbrev pub is_select : Statement → Bool
is_select (written.Select query) = true
is_select _ = false

abbrev pub is_read_as_select : Checked Parsed → Bool
is_read_as_select (Ok parsed) = is_select parsed.statement
is_read_as_select (Err fault) = false

-- The statement is a SELECT, so it changes nothing under any schema.
abbrev pub IsSelect : List ℕ → Type 0
IsSelect sql = is_read_as_select (first sql) ≡ true

-- ---- under one schema

-- The statement selects these terms of each row of one table, ordered by the first `count` of them.
pub record Selects (schema : Schema) (tree : ℕ) (count : ℕ) (sql : List ℕ) (project : List Term) : Type 0 where
  pub order : List (Term × Key)
  pub names : List (List ℕ)
  pub command : command_of (understood schema sql) ≡ Select (record { lets = []; body = selects tree [] project order })
      names
  pub plain : IsPlain (understood schema sql)
  pub unlisted : reads_listing schema sql ≡ false
  pub overlaid : (d : Trees) → overlay d [] tree ≡ d tree
  pub by : (r s : Row) → output_cmp (selects tree [] project order)
      (output (selects tree [] project order) ([] ∷ r ∷ [])) (output (selects tree [] project order) ([] ∷ s ∷ []))
      ≡ by_columns count (eval_all project ([] ∷ r ∷ [])) (eval_all project ([] ∷ s ∷ []))

-- The statement selects all columns of the rows of one table with given values, in some order.
pub record Finds (schema : Schema) (table : Table) (place : ℕ) (key : List ℕ) (wanted params : Row) (sql : List ℕ)
    (cmp : Row → Row → Ordering) : Type 0 where
  pub at : slice_get schema.tables place ≡ Some table
  pub filter : List Term
  pub project : List Term
  pub order : List (Term × Key)
  pub names : List (List ℕ)
  pub command : command_of (understood schema sql)
      ≡ Select (record { lets = []; body = selects table.tree filter project order }) names
  pub plain : IsPlain (understood schema sql)
  pub unlisted : reads_listing schema sql ≡ false
  pub overlaid : (d : Trees) → overlay d [] table.tree ≡ d table.tree
  pub shows : (r : Row) → eval_all project (params ∷ r ∷ []) ≡ cells table r
  pub picks : (r : Row) → list_all (holds (params ∷ r ∷ [])) filter ≡ same_key key (cells table r) wanted
  pub by : (r s : Row) → output_cmp (selects table.tree filter project order)
      (output (selects table.tree filter project order) (params ∷ r ∷ []))
      (output (selects table.tree filter project order) (params ∷ s ∷ []))
      ≡ cmp (eval_all project (params ∷ r ∷ [])) (eval_all project (params ∷ s ∷ []))

-- the order of a key of `width` columns among rows with the same first column
abbrev pub by_others : ℕ → Row → Row → Ordering
by_others width = key_cmp 1 (rising (width - 1))

-- The table has a statement for all rows in the order of the key, one for all rows with the greatest first column
-- first, one for the rowids, and one for the rows with a given first column.
pub record AreShownBy (schema : Schema) (table : Table) (width : ℕ) : Type 0 where
  pub place : ℕ
  pub at : slice_get schema.tables place ≡ Some table
  pub columns : List Term
  pub rows : Selects schema table.tree width (all_text table) columns
  pub whole : (r : Row) → eval_all columns ([] ∷ r ∷ []) ≡ cells table r
  pub firsts : List Term
  pub numbers : Selects schema table.tree 1 (ids_text table) firsts
  pub first : (r : Row) → eval_all firsts ([] ∷ r ∷ []) ≡ rowid r ∷ []
  pub some : (n : ℤ) → Finds schema table place (0 ∷ []) (Int n ∷ []) (Int n ∷ []) (by_first_text table)
      (by_others width)
  pub last : Finds schema table place [] [] [] (last_text table) by_first_falling
  pub all_is : IsSelect (all_text table)
  pub last_is : IsSelect (last_text table)
  pub ids_is : IsSelect (ids_text table)
  pub group_is : IsSelect (by_first_text table)
