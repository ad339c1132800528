-- The meaning of an upsert statement and of a SELECT statement. No promise of the program rests on these definitions.
use Rattle.std.specs.Prelude.{◌≡◌, ℕ, ℤ, pos, negsuc, true, false, List, [], ◌∷◌, ◌++◌, Some, None}
use Rattle.std.specs.List.{AllByRecursion}
use Rattle.sqlite.specs.Order.{Row, column}
use Rattle.sqlite_value.specs.declared.keys.Key.{Key}
use Rattle.sqlite.specs.declared.types.Value.TheVariants.{Int}
use Rattle.sqlite.specs.Table.{Table}
use Rattle.sqlite.specs.Schema.{Schema}
use Rattle.sqlite.specs.Tree.{Trees}
use Rattle.sqlite.specs.Term.{Term, lit, col, op2, eval_all}
use Rattle.sqlite.specs.Query.{Query, inner, end}
use Rattle.sqlite.specs.Program.{overlay}
use Rattle.sqlite.specs.Effect.{IsSource}
use Rattle.sqlite.specs.Rows.{stamped, shown}
use Rattle.sqlite_trees.specs.Tree.{rowid}
use Rattle.sqlite_sql.specs.declared.ops.BinaryOp.TheVariants.{Compare}
use Rattle.sqlite_sql.specs.declared.ops.CompareOp.TheVariants.{Eq}
use Rattle.sqlite.specs.Collation.TheVariants.{Binary}
use Rattle.sqlite_schema.specs.declared.schema.Constraint.TheVariants.{Unique}
use Rattle.sqlite_schema.specs.declared.schema.Keys.TheVariants.{Enforced}
use Rattle.sqlite_schema.specs.declared.command.Source.{Source}
use Rattle.sqlite_schema.specs.declared.command.Upsert.{Upsert}
use Rattle.sqlite_schema.specs.Rules.{Keeps as KeepsRule}
use Rattle.sqlite_rules.specs.Lists.{Has}
use Rattle.sqlite_rules.specs.Action.{works}
use Rattle.sqlite_rules.specs.Cast.{cast_row}
use Rattle.sqlite_rules.specs.Edit.{with_rowid}
use Rattle.sqlite_rules.specs.Keys.{conflicts}
use Rattle.sqlite_rules.specs.declared.error.Rowids.TheVariants.{Chosen}
use Rattle.store_tables.specs.Content.{cells, AreApart, Keeps, same_key}
use Rattle.store_tables.specs.internal.Content.{put}

-- the row lookup of ON CONFLICT DO UPDATE: the row with the rowid at this place
abbrev pub picks : ℕ → ℕ → List Term → Query
picks tree base project = record {
  from = inner tree end;
  filter = op2 (Compare Eq Binary) (col 1 0) (col 0 base) ∷ [];
  group = None;
  project = project;
  distinct = false;
  collations = [];
  order = [];
  limit = lit (Int (negsuc 0));
  offset = lit (Int (pos 0));
}

abbrev pub on_key : List ℕ → ℕ → ℕ → List Term → List Upsert
on_key places tree base project =
    record { target = Some places; update = Some (record { lets = []; body = picks tree base project }) } ∷ []

-- With these parameters the statement upserts this row. Each field is decided by computation.
pub record IsPut (schema : Schema) (table : Table) (key : List ℕ) (params row : Row) (from : Source) (places : List ℕ)
    (base : ℕ) (project : List Term) : Type 0 where
  pub source : Row
  -- the row as it is stored under a rowid
  pub stored : ℤ → Row
  pub sourced : (db : Trees) (rows : List Row)
      → IsSource (record { schema = schema; trees = db }) (stamped table params) from rows → rows ≡ source ∷ []
  pub uncounted : table.is_counted ≡ false
  pub idle : (olds news : List Row) → works schema Enforced 0 table.tree olds news ≡ []
  pub overlaid : (db : Trees) → overlay db [] table.tree ≡ db table.tree
  pub placed : (rows : List Row) → (n : ℤ) × (with_rowid Chosen rows (cast_row table source) ≡ stored n)
  pub recast : (n : ℤ) → cast_row table (stored n) ≡ stored n
  pub shows : (n : ℤ) → cells table (stored n) ≡ row
  pub meets : (r : Row) (n : ℤ) → conflicts (Some places) schema.indexes table (stored n) r
      ≡ same_key key (cells table r) row
  pub based : (there : Row) (n : ℤ) → column (params ++ rowid there ∷ shown table (stored n)) base ≡ rowid there
  pub updated : (there was : Row) (n m : ℤ) → rowid was ≡ Int m
      → eval_all project ((params ++ rowid there ∷ shown table (stored n)) ∷ was ∷ []) ≡ Int m ∷ stored m
  pub named : (was : Row) (m : ℤ) → rowid was ≡ Int m → same_key key (cells table was) row ≡ true
      → rowid (stored m) ≡ Int m
  pub distinct : (next : Trees) (r : Row) (n m : ℤ) → KeepsRule Unique schema next → rowid r ≡ Int m
      → Has (next table.tree) r → Has (next table.tree) (stored n) → same_key key (cells table r) row ≡ true
      → rowid (stored n) ≡ rowid r

-- The row is upserted into the table; all other tables are unchanged.
pub record HasPut (schema : Schema) (table : Table) (key : List ℕ) (row : Row) (db next : Trees) : Type 0 where
  pub kept : (rows : List Row) → Keeps table db rows → Keeps table next (put key row rows)
  pub apart : AreApart (next table.tree)
  pub others : AllByRecursion (λ t. (t.tree ≡ table.tree → ⊥) → next t.tree ≡ db t.tree) schema.tables

-- SELECT terms FROM one table, with a filter and an order
abbrev pub selects : ℕ → List Term → List Term → List (Term × Key) → Query
selects tree filter project order = record {
  from = inner tree end;
  filter = filter;
  group = None;
  project = project;
  distinct = false;
  collations = [];
  order = order;
  limit = lit (Int (negsuc 0));
  offset = lit (Int (pos 0));
}
