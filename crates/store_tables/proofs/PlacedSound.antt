-- What a sound database has of what is asked of the tables of a club and of their neighbours.
use Rattle.std.proofs.Common.{◌≡◌, ℕ, ◌<◌, ◌&&◌, true, false, List, [], ◌∷◌, Some, refl, sym, ap, subst, ◌∙◌, arith}
use Rattle.std.proofs.Common.{slice_get, slice_index_or, nat_lt, ◌^◌, eq-eqb}
use Rattle.std.proofs.lemmas.Grind.{common_steps}
use Rattle.std.specs.List.{AllByRecursion, AllZip}
use Rattle.store_tables.specs.Sql.{Row, column, Schema, Table, Trees, Has}
use Rattle.sqlite.specs.declared.types.Value.TheVariants.{Null, Text}
use Rattle.sqlite_catalog.specs.Listing.{IsDefined, IsGuarded, IsIndexRow, IsSound, IsTableRow, automatic}
use Rattle.sqlite_rules.proofs.ListLemmas.{all_has, has_got, test_has}
use Rattle.sqlite_schema.specs.declared.schema.Index.{Index}
use Rattle.sqlite_value.specs.declared.value.Value.{Value}
use Rattle.std.proofs.lemmas.Bool.{not-true}
use Rattle.sqlite_rules.proofs.RuleLemmas.{keeps_at}
use Rattle.sqlite_schema.specs.Rules.{clashes, guards}
use Rattle.sqlite_schema.specs.declared.schema.Constraint.TheVariants.{Unique}
use Rattle.sqlite_value.specs.Keys.{plain}
use Rattle.store_tables.specs.Names.{tree_of}
use Rattle.store_tables.specs.Placed.{HasTableAt, by_club}
use Rattle.store_tables.specs.Tables.{made_as}
use Rattle.store_tables.specs.declared.names.Table as of_club
use Rattle.store_tables.proofs.PlacedSelects.{tree_is}
use Rattle.store_tables.proofs.PlacedTrees.{by_club_at}
use Rattle.store_tables.proofs.PlacedSteps.{IsOwned}

of_table : (table : Table) (index : Index) (by : Value) → IsDefined table index by → index.table ≡ table.tree
of_table table index Null defined = ap (λ (i : Index). i.table) defined.3
of_table table index (Text sql) defined = ap (λ (i : Index). i.table) defined.2
of_table table index _ defined = absurd defined

-- what the second of two lists has of the first, place by place
zip_second : {A B : Type 0} (R : A → B → Type 0) (P : B → Type 0) → ((x : A) (y : B) → R x y → P y) → (xs : List A)
    (ys : List B) → AllZip R xs ys → AllByRecursion P ys
zip_second R P so xs [] all = tt
zip_second R P so [] (y ∷ ys) all = absurd all
zip_second R P so (x ∷ xs) (y ∷ ys) all = (so x y all.0, zip_second R P so xs ys all.1)

-- Each index of a sound database is of one of its tables.
pub sound_owned : (schema : Schema) (db : Trees) → IsSound schema db → AllByRecursion (IsOwned schema) schema.indexes
sound_owned schema db sound =
    zip_second (IsIndexRow schema.tables) (IsOwned schema)
    (λ row index one. (one.table, one.listed, of_table one.table index (column row 4) one.defined)) _ schema.indexes
    sound.lists.listed.indexes

-- Each UNIQUE of a table of a sound database has its index.
pub sound_guarded : (schema : Schema) (db : Trees) → IsSound schema db → (table : Table) → Has schema.tables table
    → IsGuarded schema.indexes table
sound_guarded schema db sound table has =
    all_has (IsGuarded schema.indexes) schema.tables table sound.lists.guarded has

is_stored : (tree : ℕ) → tree < 65536 → nat_lt tree (2 ^ 31) ≡ true
is_stored tree low = grind (arith, common_steps, low)

-- No tree of a table of a sound database is one of a table that a statement computes.
pub sound_stored : (schema : Schema) (db : Trees) → IsSound schema db → (table : Table) → Has schema.tables table
    → nat_lt table.tree (2 ^ 31) ≡ true
sound_stored schema db sound table has =
    is_stored table.tree
    (all_has (λ (t : Table). t.tree < 65536) schema.tables table
    (zip_second IsTableRow (λ (t : Table). t.tree < 65536) (λ row t is. is.described.low) _ schema.tables
    sound.lists.listed.tables) has)

-- ---- no two rows have one key

-- Of a sound database no row of a club's table has the UNIQUE key of another.
pub unique_at : (schema : Schema) (trees : Trees) → IsSound schema trees → (table : of_club.Table)
    (s : HasTableAt schema table) (at : ℕ) (key : List ℕ) → slice_get (made_as table s.tree).uniques at ≡ Some key
    → slice_index_or (made_as table s.tree).orders at plain ≡ plain
    → (r : Row) → Has (by_club schema trees (tree_of table)) r
    → clashes plain key (by_club schema trees (tree_of table)) r ≡ false
unique_at schema trees sound table s place key unique ordered r =
    let there : Table = made_as table s.tree in
    let own = s.guarded place key unique in
    let index : Index = automatic there place key own.0 in
    let guard : guards index there ≡ true = eq-eqb there.tree there.tree refl in
    let listed : Has schema.tables there = has_got schema.tables s.place there s.at in
    let at : trees there.tree ≡ by_club schema trees (tree_of table) =
    ap trees (tree_is table s.tree) ∙ sym (by_club_at schema trees table s) in
    subst (λ l. Has l r → clashes plain key l r ≡ false) at
    (λ has.
    let passes = test_has _ schema.indexes index
    (keeps_at Unique schema trees there r (sound.obeys.rules Unique) listed has) own.1 in
    subst (λ o. clashes o key (trees there.tree) r ≡ false) ordered
    (subst (λ g. (g && clashes index.order index.columns (trees there.tree) r) ≡ false) guard (not-true _ passes)))

pub unique_here : (schema : Schema) (trees : Trees) → IsSound schema trees → (table : of_club.Table)
    (s : HasTableAt schema table) (key : List ℕ) → slice_get (made_as table s.tree).uniques 0 ≡ Some key
    → slice_index_or (made_as table s.tree).orders 0 plain ≡ plain
    → (r : Row) → Has (by_club schema trees (tree_of table)) r
    → clashes plain key (by_club schema trees (tree_of table)) r ≡ false
unique_here schema trees sound table s = unique_at schema trees sound table s 0
