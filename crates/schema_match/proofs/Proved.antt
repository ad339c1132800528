-- What these calls offer to proofs of the crates above, which cite no other module of these proofs.
use Rattle.std.proofs.Common.{◌≡◌, true, refl}
use Rattle.sqlite_schema.specs.Names.{same_name}
use Rattle.store_tables.specs.Tables.{schema_of}
use Rattle.store_tables.specs.declared.names.Version.{Version}
use Rattle.store_tables.specs.declared.names.Version.TheVariants.{V1, V2, V3}
use Rattle.schema_match.specs.Shapes.{is_of_club}

-- the tables that a club makes are those of its version
pub club_is_of_club : (version : Version) → is_of_club version (schema_of version) ≡ true
unfolding same_name
club_is_of_club V1 = refl
club_is_of_club V2 = refl
club_is_of_club V3 = refl
