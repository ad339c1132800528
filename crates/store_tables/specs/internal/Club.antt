-- The rows in a database with a club's schema, and the rows after a crash. No promise of the program rests on these
-- definitions.
use Rattle.sqlite.specs.Effect.{Database}
use Rattle.sqlite.specs.State.{State}
use Rattle.store_tables.specs.Contents as of_schema
use Rattle.store_tables.specs.internal.Contents as internal_of_schema
use Rattle.store_tables.specs.Contents.{Content}
use Rattle.store_tables.specs.Tables.{schema_of}
use Rattle.store_tables.specs.declared.names.Version.{Version}

-- The database has the schema of this version and nothing else, and each table has its rows.
abbrev pub Holds : Version → Database → Content → Type 0
Holds version = of_schema.Holds (schema_of version)

-- Inside a transaction the rows of a club of this version changed in this way; nothing was committed.
abbrev pub Steps : Version → (Content → Content) → State → State → Type 0
Steps version = internal_of_schema.Steps (schema_of version)
