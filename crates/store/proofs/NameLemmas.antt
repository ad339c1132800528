-- Where the names of the tables that schema 3 adds are used.
use Rattle.std.proofs.Common.{◌≡◌, ◌⊎◌, ◌≤◌, ◌<◌, ℕ, ◌+◌, Bool, true, false, List, [], ◌∷◌, ◌++◌, inl, inr, refl}
use Rattle.std.proofs.Common.{ap, arith, sym, subst, true≢false}
use Rattle.std.proofs.lemmas.Bool.{cases_Bool, or_parts}
use Rattle.std.specs.List.{position_from}
use Rattle.std.specs.Prelude.{◌||◌, is_some}
use Rattle.sqlite.specs.Schema.{Schema}
use Rattle.sqlite.specs.Table.{Table}
use Rattle.sqlite_catalog.specs.Change.{automatics, created, is_used, next_tree}
use Rattle.sqlite_schema.specs.Names.{index_named, same_name, table_named, view_named}
use Rattle.store_tables.specs.Migrations.{MigratesTo, added_tables}
use Rattle.store_tables.specs.Names.{in_order, table_count, table_name}
use Rattle.store_tables.specs.Over.{Neighbours}
use Rattle.store_tables.specs.Placed.{HasTableAt, HasTables, HasTablesOf}
use Rattle.store_tables.specs.Room.{AreUnused}
use Rattle.store_tables.specs.Tables.{IsServed, made_as, schema_number}
use Rattle.store_tables.specs.declared.names.Table.TheVariants.{EventRules, Keys, Rulings, Closings}
use Rattle.store_tables.specs.declared.names.Version.{Version}
use Rattle.store_tables.specs.declared.names.Version.TheVariants.{V1, V2, V3}
use Rattle.store_tables.proofs.Proved.{fewer}
use Rattle.store.specs.Upgrades.{uses_names_of}

-- what is not found in a longer list is not found in its beginning
not_in_part : {K : Type 0} (test : K → Bool) (n : ℕ) (some more : List K)
    → is_some (position_from test n (some ++ more)) ≡ false → is_some (position_from test n some) ≡ false
not_in_part test n [] more none = refl
not_in_part test n (x ∷ some) more none = elim (cases_Bool (test x)) [
  | inl is ↦ absurd (true≢false (rw is at none))
  | inr other ↦ rw other (not_in_part test (n + 1) some more (rw other at none))
]

-- a name that is free where a table was created was free before
free_before : (schema : Schema) (table : Table) (name : List ℕ) → is_used (created schema table) name ≡ false
    → is_used schema name ≡ false
free_before schema table name free =
    let apart = or_parts _ _ free in
    let both = or_parts _ _ apart.0 in
    let new : Table = record table { tree = next_tree schema } in
    let no_table : is_some (table_named schema name) ≡ false =
    not_in_part (λ (t : Table). same_name t.name name) 0 schema.tables (new ∷ []) both.0 in
    let no_index : is_some (index_named schema name) ≡ false =
    not_in_part (λ i. same_name i.name name) 0 schema.indexes (automatics new 0 (new.tree + 1) new.uniques) both.1 in
    λ i. (no_table i || no_index i) || apart.1 i

-- the names of the tables that schema 3 adds
three_free : (schema : Schema) → AreUnused schema (Keys ∷ Rulings ∷ Closings ∷ []) → uses_names_of V3 schema ≡ false
three_free schema unused =
    let keys = unused.0 in
    let next = unused.3 in
    let rulings = free_before schema (made_as Keys 0) (table_name Rulings) next.0 in
    let last = next.3 in
    let closings = free_before schema (made_as Keys 0) (table_name Closings)
    (free_before (created schema (made_as Keys 0)) (made_as Rulings 0) (table_name Closings) last.0) in
    λ i. keys i || (rulings i || closings i)

three_free_before : (schema : Schema) (table : Table) → uses_names_of V3 (created schema table) ≡ false
    → uses_names_of V3 schema ≡ false
three_free_before schema table free =
    let apart = or_parts _ _ free in
    let both = or_parts _ _ apart.1 in
    let keys = free_before schema table (table_name Keys) apart.0 in
    let rulings = free_before schema table (table_name Rulings) both.0 in
    let closings = free_before schema table (table_name Closings) both.1 in
    λ i. keys i || (rulings i || closings i)

names_free_by : (from to : Version) (schema : Schema) → schema_number from < schema_number to
    → AreUnused schema (added_tables from to) → uses_names_of to schema ≡ false
names_free_by from V1 schema less unused = refl
names_free_by from V2 schema less unused = refl
names_free_by V1 V3 schema less unused =
    three_free_before schema (made_as EventRules 0) (three_free (created schema (made_as EventRules 0)) unused.3)
names_free_by V2 V3 schema less unused = three_free schema unused
names_free_by V3 V3 schema less unused = absurd (omega (arith, less))

-- no name of a new table is used where a migration leads on
pub names_free : (from to : Version) (before them : Neighbours) → before.version ≡ from → them.version ≡ to
    → MigratesTo before them → schema_number from < schema_number to → uses_names_of to before.schema ≡ false
names_free from to before them was is migrates less =
    let same : added_tables before.version them.version ≡ added_tables from to = λ i. added_tables (was i) (is i) in
    names_free_by from to before.schema less (subst (AreUnused before.schema) same migrates.unused)

-- a club of schema 3 has its tables
pub names_used : (schema : Schema) → HasTables V3 schema → uses_names_of V3 schema ≡ true
names_used schema has =
    let keys : HasTableAt schema Keys = has.1.1.1.1.1.1.1.1.1.0 in
    let named = ap is_some keys.named in
    let rulings = is_used schema (table_name Rulings) in
    let closings = is_used schema (table_name Closings) in
    let index = is_some (index_named schema (table_name Keys)) in
    let view = is_some (view_named schema (table_name Keys)) in
    λ i. ((named i || index) || view) || (rulings || closings)

-- what an upgrade finds of a club of the requested schema or a later one: the tables of schema 2, or names of schema 3
pub reached_tables : (to version : Version) → IsServed to → schema_number to ≤ schema_number version
    → (schema : Schema) → HasTables version schema
    → ((to ≡ V2) × HasTablesOf V2 schema) ⊎ (uses_names_of to schema ≡ true)
reached_tables V1 version served less schema has = absurd (true≢false (sym served))
reached_tables V2 V1 served less schema has = absurd (omega (arith, less))
reached_tables V2 V2 served less schema has = inl (refl, (has, tt))
reached_tables V2 V3 served less schema has =
    inl (refl, (fewer (HasTableAt schema) in_order (table_count V2) (table_count V3) (omega arith) has, tt))
reached_tables V3 V1 served less schema has = absurd (omega (arith, less))
reached_tables V3 V2 served less schema has = absurd (omega (arith, less))
reached_tables V3 V3 served less schema has = inr (names_used schema has)
