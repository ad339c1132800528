-- The rows in a database with a club's schema, and the rows after a crash.
use Rattle.sqlite.specs.Tree.{Trees}
use Rattle.sqlite.specs.State.{State}
use Rattle.store_tables.specs.Contents as of_schema
use Rattle.store_tables.specs.Contents.{Content}
use Rattle.store_tables.specs.Tables.{schema_of}
use Rattle.store_tables.specs.declared.names.Version.{Version}

-- After a crash the file has the schema of this version and nothing else, and its tables have these rows.
abbrev pub Leaves : Version → Content → Trees → Type 0
Leaves version = of_schema.Leaves (schema_of version)

-- Outside a transaction, the database has the schema of this version with exactly these rows, also after a crash.
abbrev pub IsExactly : Version → Content → State → Type 0
IsExactly version = of_schema.IsExactly (schema_of version)
