-- A text that asks for the rows of a table that is not there is not understood.
use Rattle.std.proofs.Common.{◌≡◌, false, None, refl, ap, ◌∙◌, if◌then◌else◌, is_ok}
use Rattle.sqlite.specs.Listing.{listing_schema, misses_table, if_select}
use Rattle.store_tables.specs.Sql.{understood, Schema}
use Rattle.sqlite_schema.specs.Names.{same_name, table_named, view_named}
use Rattle.sqlite_resolve.specs.Compile.{compiled}
use Rattle.store_tables.specs.Names.{table_name, tree_of}
use Rattle.store_tables.specs.Tables.{standing}
use Rattle.store_tables.specs.internal.Texts.{by_first_text}
use Rattle.store_tables.specs.declared.names.Table as of_club
use Rattle.store_tables.specs.declared.names.Table.TheVariants.{Meta}
use Rattle.store_tables.proofs.PlacedSelects.{are_meant, group_asked, name_is}
use Rattle.store_tables.proofs.PlacedTexts.{compiled_none}

listed : (table : of_club.Table) → table_named listing_schema (table_name table) ≡ None
unfolding listing_schema same_name
listed Meta = refl
listed _ = refl

viewed : (table : of_club.Table) → view_named listing_schema (table_name table) ≡ None
unfolding listing_schema same_name
viewed Meta = refl
viewed _ = refl

-- the name of a table's description, which its texts have
name_standing : (table : of_club.Table) → (standing table).name ≡ table_name table
name_standing table = name_is table (tree_of table)

-- Where no table or view has its name, a table is not shown.
pub table_missing : (table : of_club.Table) (s : Schema) → table_named s (table_name table) ≡ None
    → view_named s (table_name table) ≡ None
    → is_ok (understood s (by_first_text (standing table))) ≡ false
unfolding understood
table_missing table s no_table no_view =
    let sql = by_first_text (standing table) in
    let asked = group_asked (standing table) in
    let parsed = (are_meant table (tree_of table)).group.parsed in
    let name = name_standing table in
    let no_table_here = ap (table_named s) name ∙ no_table in
    let no_view_here = ap (view_named s) name ∙ no_view in
    let none_listed = ap (table_named listing_schema) name ∙ listed table in
    let none_viewed = ap (view_named listing_schema) name ∙ viewed table in
    (λ i.
    is_ok
    (if misses_table (compiled_none s asked no_table_here no_view_here sql parsed i)
    then if_select (compiled listing_schema sql) else compiled_none s asked no_table_here no_view_here sql parsed i))
    ∙ (λ i. is_ok (if_select (compiled_none listing_schema asked none_listed none_viewed sql parsed i)))
