-- The tables of a club, as SQLite parses their CREATE statements. Each UNIQUE key and each key of several columns has
-- an index tree after the tree of its table. Schema 1 has the first eight tables, schema 2 the first nine, schema 3
-- all.
-- No promise of the program rests on these definitions.
use Rattle.std.specs.Prelude.{◌≡◌, Bool, nat_lt, []}
use Rattle.sqlite.specs.Schema.{Schema}
use Rattle.store_tables.specs.Tables.{schema_after, schema_of, flat_indexes, tables}
use Rattle.store_tables.specs.Names.{table_count}
use Rattle.store_tables.specs.internal.Names.{place_of}
use Rattle.store_tables.specs.declared.names.Table as of_club
use Rattle.store_tables.specs.declared.names.Version.{Version}

-- schema 1
abbrev pub first_schema : Schema
first_schema = schema_after 8

-- the schema of a club of one of the versions
abbrev pub IsClubSchema : Schema → Type 0
IsClubSchema schema = (version : Version) × (schema ≡ schema_of version)

-- a club of this version has the table
abbrev pub has_table : Version → of_club.Table → Bool
has_table version table = nat_lt (place_of table) (table_count version)

-- schema 3
abbrev pub club_schema : Schema
club_schema = record { tables = tables; indexes = flat_indexes tables; views = [] }
