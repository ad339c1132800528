-- Whether the tables of a database can be used as those of a club, even if another program created them by other
-- statements. Only differences that could change a result count.
use Rattle.std.specs.Prelude.{◌==◌, ◌&&◌, Bool, List, length}
use Rattle.std.specs.List.{list_all, list_any}
use Rattle.sqlite_schema.specs.declared.schema.Schema.{Schema}
use Rattle.sqlite_schema.specs.declared.schema.Table.{Table}
use Rattle.sqlite_schema.specs.Names.{same_name}
use Rattle.store_tables.specs.Placed.{tables_of}
use Rattle.store_tables.specs.Tables.{made_as}
use Rattle.store_tables.specs.declared.names.Table as of_club
use Rattle.store_tables.specs.declared.names.Version.{Version}
use Rattle.schema_match.specs.Columns.{key_name, has_columns_as}
use Rattle.schema_match.specs.Keys.{has_keys_as}

-- no CHECK and no FOREIGN KEY, and a rowid column of the same name
abbrev pub is_plain_as : (ours theirs : Table) → Bool
is_plain_as ours theirs =
    length theirs.checks == 0 && length theirs.references == 0 && same_name (key_name ours) (key_name theirs)

-- This table of the schema can be used in place of ours. Views, and tables with triggers, generated columns or anything
-- else that is not modelled, are not among the schema's tables.
abbrev pub answers_as : Schema → (ours theirs : Table) → Bool
answers_as schema ours theirs =
    same_name ours.name theirs.name && is_plain_as ours theirs && has_columns_as ours theirs
    && has_keys_as schema ours theirs

-- some table of the schema can be used in place of this one of ours
abbrev pub has_table : Schema → Table → Bool
has_table schema ours = list_any (answers_as schema ours) schema.tables

-- the schema has each of these tables of a club, or an equivalent one
abbrev pub have_tables : Schema → List of_club.Table → Bool
have_tables schema tables = list_all (λ table. has_table schema (made_as table 0)) tables

-- the schema has each table of this version, or an equivalent one; others do not matter
abbrev pub is_of_club : Version → Schema → Bool
is_of_club version schema = have_tables schema (tables_of version)
