-- The schema versions that a database's tables match. No promise of the program rests on these definitions.
use Rattle.std.specs.Prelude.{Bool, nat_le}
use Rattle.store_tables.specs.Names.{table_count}
use Rattle.store_tables.specs.declared.names.Version.{Version}
use Rattle.schema_match.specs.declared.tables.Versions.{Versions}

abbrev pub has_version : Versions → Version → Bool
has_version told version = nat_le (table_count version) told.count
