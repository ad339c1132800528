-- What `excluded.NAME` stands for in ON CONFLICT DO UPDATE, whatever further tables the schema has.
use Rattle.std.proofs.Common.{◌≡◌, ℕ, Bool, true, false, List, [], ◌∷◌, ◌++◌, Option, Some, None, Ok, refl, sym, ap}
use Rattle.std.proofs.Common.{◌∙◌, slice_get, length, option_map, is_some, not, ◌||◌, ◌&&◌, codes, map, if◌then◌else◌}
use Rattle.std.proofs.Common.{option_and_then}
use Rattle.std.proofs.lemmas.Bool.{and_parts, not-true}
use Rattle.std.specs.List.{list_all}
use Rattle.sqlite_ast.specs.declared.Expr.{Expr}
use Rattle.sqlite_ast.specs.declared.Expr.TheVariants as written_expr
use Rattle.sqlite_sql.specs.Term.{Term, col}
use Rattle.store_tables.specs.Sql.{Schema, Table}
use Rattle.sqlite_schema.specs.Names.{same_name, column_named, place_of}
use Rattle.sqlite_resolve.specs.declared.error.CompileError.TheVariants.{NoSuchColumn, Unsupported}
use Rattle.sqlite_resolve.specs.declared.scope.Bound.{Bound}
use Rattle.sqlite_resolve.specs.declared.scope.Level.{Level}
use Rattle.sqlite_resolve.specs.declared.scope.Found.TheVariants.{Column, Alias}
use Rattle.sqlite_resolve.specs.declared.state.Carried.{Carried}
use Rattle.sqlite_resolve.specs.declared.state.State.{State}
use Rattle.sqlite_resolve.specs.Lowering.{Checked, Lowering, and_then, or_else, carry, pure, lift, get, fail, fresh}
use Rattle.sqlite_resolve.specs.Lowering.{max_budget, ◌>>◌, ◌>>=◌}
use Rattle.sqlite_resolve.specs.Scope.{Context, Name, is_rowid, column_in, hit, only, in_level, find, find_from}
use Rattle.sqlite_resolve.specs.Scope.{found_or, column_at, term_of, column, at_most_one, alias_of, declared, is_hidden}
use Rattle.sqlite_resolve.specs.Expr.{lower_to, node_at, opened}
use Rattle.sqlite_resolve.specs.Write.{level_of, with_place, sets_from, sets, assigned, updated_in, picked, row}
use Rattle.sqlite_resolve.specs.Body.{tests}
use Rattle.sqlite_resolve.specs.Reach.{any_scans}
use Rattle.sqlite_resolve.specs.Select.{value_of}
use Rattle.sqlite_resolve.specs.Given.{at_rowid, do_update, given, with_given}
use Rattle.sqlite_ast.specs.declared.Upsert as written
use Rattle.store_tables.proofs.PlacedTerms.{lowered_same}

pub slice_last : (ts : List Table) (x : Table) → slice_get (ts ++ x ∷ []) (length ts) ≡ Some x
slice_last [] x = refl
slice_last (t ∷ ts) x = slice_last ts x

abbrev pub new_row : Name
new_row = codes "excluded"

abbrev bound : ℕ → Bound
bound k = record { name = new_row; table = k; slot = 0; shared = [] }

-- the level of the new row, in the table at a place of the schema
abbrev level : ℕ → Level
level k = record { tables = bound k ∷ []; shown = [] }

-- the table of the statement around the new row
abbrev context_of : Schema → ℕ → Level → Context
context_of s k inner =
    record { schema = s; levels = inner ∷ level k ∷ []; may_aggregate = false; may_alias = true }

-- the cell of a column of the table that was found
abbrev cell_in : Option Table → ℕ → Checked (Term × Carried)
cell_in found j =
    or_else (option_and_then (λ t. option_map (λ c. (col 0 (place_of t j), declared t j c)) (slice_get t.columns j))
    found)
    NoSuchColumn

-- a column of the new row, as its table tells it
abbrev shown_by : Table → ℕ → Lowering Term
shown_by given j = lift (cell_in (Some given) j) >>= (λ found. carry found.1 >> pure found.0)

module _ (s : Schema) (k : ℕ) (given : Table) (at : slice_get s.tables k ≡ Some given) (name : Name) (j : ℕ)
    (named : column_named given name ≡ Some j) where
  found_in : column_in s name (bound k) ≡ Some (Column 0 k j)
  unfolding column_in
  found_in = ap (λ o. option_map (Column 0 k) (option_and_then (λ t. column_named t name) o)) at
      ∙ ap (option_map (Column 0 k)) named

  hit_is : hit s (Some new_row) name false (bound k) ≡ Some (Column 0 k j)
  unfolding hit same_name
  hit_is = found_in

  level_is : (depth : ℕ) → in_level s (Some new_row) name depth (level k) ≡ Ok (Some (Column 0 k j))
  unfolding in_level only
  level_is depth i =
      and_then (and_then (at_most_one None (hit_is i)) (λ f. Ok f)) (λ column.
      if is_some column then Ok column else
      and_then (if is_rowid name then only s (Some new_row) name true (bound k ∷ []) else Ok None) (λ rowid.
      if is_some rowid || true then Ok rowid else Ok (option_map (Alias depth) (alias_of name []))))

  column_is : (st : State)
      → (lift (column_at s 0 k j) >>= (λ found. carry found.1 >> pure found.0)) st ≡ shown_by given j st
  unfolding column_at
  column_is st i = (lift (cell_in (at i) j) >>= (λ found. carry found.1 >> pure found.0)) st

  module _ (inner : Level) (hidden : in_level s (Some new_row) name 0 inner ≡ Ok None) where
    abbrev here : Context
    here = context_of s k inner

    find_is : find here (Some new_row) name ≡ Ok (Column 0 k j)
    unfolding find
    find_is i = and_then (hidden i) (found_or (and_then (level_is 1 i)
        (found_or (find_from s (Some new_row) name 2 []))))

    shown_is : (st : State) → column here (Some new_row) name st ≡ shown_by given j st
    unfolding column term_of
    shown_is st = (λ i. (lift (find_is i) >>= term_of here) st) ∙ column_is st

    opens : (st : State) → opened (lower_to 699) here (written_expr.Column (Some new_row) name) st ≡ shown_by given j st
    unfolding opened
    opens st = (λ i. node_at (lower_to 699) here (written_expr.outs-Column (Some new_row) name i) st) ∙ shown_is st

-- no table of the statement has the name of the new row
module _ (s : Schema) (name : Name) (plain : is_rowid name ≡ false) (at : ℕ) (table : Name)
    (other : same_name table new_row ≡ false) where
  abbrev inner : Bound
  inner = record { name = table; table = at; slot = 1; shared = [] }

  unmeant : hit s (Some new_row) name false inner ≡ None
  unfolding hit
  unmeant i = if other i && not (is_hidden (Some new_row) name inner) then column_in s name inner else None

  pub hidden_is : in_level s (Some new_row) name 0 (level_of at table) ≡ Ok None
  unfolding in_level only
  hidden_is i =
      and_then (and_then (at_most_one None (unmeant i)) (λ f. Ok f)) (λ column.
      if is_some column then Ok column else
      and_then (if plain i then only s (Some new_row) name true (inner ∷ []) else Ok None) (λ rowid.
      if is_some rowid || true then Ok rowid else Ok (option_map (Alias 0) (alias_of name []))))

-- the column of a name, set to that of the new row
abbrev pub new_of : Name → Name × Expr
new_of name = (name, written_expr.Column (Some new_row) name)

abbrev pub is_of_table : Table → Name → Bool
is_of_table given name = not (is_rowid name) && is_some (column_named given name)

some_at : (found : Option ℕ) → is_some found ≡ true → (j : ℕ) × (found ≡ Some j)
some_at None h = absurd cc
some_at (Some j) h = (j, refl)

-- the new row stands in both schemas, after whatever tables
module _ (s t : Schema) (k l : ℕ) (given : Table) (one : slice_get s.tables k ≡ Some given)
    (two : slice_get t.tables l ≡ Some given) (at : ℕ) (table : Table) (other : same_name table.name new_row ≡ false)
  where
    abbrev first_context : Context
    first_context = context_of s k (level_of at table.name)

    abbrev second_context : Context
    second_context = context_of t l (level_of at table.name)

    sets_same : (names : List Name) → list_all (is_of_table given) names ≡ true → (done : List ℕ × List Term)
        (st : State)
        → sets_from first_context table done (map new_of names) st
        ≡ sets_from second_context table done (map new_of names) st
    sets_same [] known done st = refl
    sets_same (name ∷ names) known done st =
        let both = and_parts _ _ known in
        let here = and_parts _ _ both.0 in
        let (j, named) = some_at (column_named given name) here.1 in
        let inner = level_of at table.name in
        let hidden = λ (u : Schema). hidden_is u name (not-true _ here.0) at table.name other in
        let same = lowered_same first_context second_context 699 (written_expr.Column (Some new_row) name) (λ x.
        opens s k given one name j named inner (hidden s) x
        ∙ sym (opens t l given two name j named inner (hidden t) x)) st in
        λ i. and_then (with_place table done.0 name)
        (λ at. and_then (same i) (λ r. sets_same names both.1 (at, done.1 ++ r.0 ∷ []) r.1 i))

    assigned_same : (names : List Name) → list_all (is_of_table given) names ≡ true → (st : State)
        → assigned first_context table (map new_of names) st ≡ assigned second_context table (map new_of names) st
    unfolding assigned sets
    assigned_same names known st i =
        and_then (sets_same names known ([], []) st i)
        (λ r. (get >>= (λ s. if any_scans table.tree s.steps then fail Unsupported else pure r.0)) r.1)

    updated_same : (names : List Name) → list_all (is_of_table given) names ≡ true
        → updated_in first_context table (map new_of names) None
        ≡ updated_in second_context table (map new_of names) None
    unfolding updated_in picked tests
    updated_same names known i =
        and_then (assigned_same names known (fresh 2 max_budget) i) (λ r.
        and_then (row table None r.0.0 (col 1 0 ∷ []) r.0.1)
        (λ project. value_of (picked first_context table project None r.1)))

-- ON CONFLICT DO UPDATE that sets columns of these names to those of the new row
abbrev pub updates_to : (target names : List Name) → written.Upsert
updates_to target names = record { target = target; sets = map new_of names; filter = None }

-- It means the same in each schema.
pub update_same : (s t : Schema) (at base : ℕ) (table : Table) (target names : List Name)
    → list_all (is_of_table (given table base)) names ≡ true → same_name table.name new_row ≡ false
    → do_update s at table base (updates_to target names) ≡ do_update t at table base (updates_to target names)
unfolding do_update
update_same s t at base table target names known other i =
    let it = with_given s table base in
    let that = with_given t table base in
    and_then (updated_same it that (length s.tables) (length t.tables) (given table base)
    (slice_last s.tables (given table base)) (slice_last t.tables (given table base)) at table other names known i)
    (λ d. Ok (at_rowid base d))
