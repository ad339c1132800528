-- The rows of a club that are read whole, and the meaning of an error about rows.
use Rattle.std.specs.Prelude.{◌≡◌}
use Rattle.sqlite.specs.Effect.{Database}
use Rattle.store_tables.specs.declared.names.Table.{Table}
use Rattle.club_check.specs.Versions.{IsNoClub}
use Rattle.club_check.specs.declared.fault.OpenFault.{OpenFault}
use Rattle.club_check.specs.declared.fault.OpenFault.TheVariants.{Damaged}

-- a table is reported as damaged, and no legal club has the tables of the database
abbrev pub NamesRows : Database → OpenFault → Type 0
NamesRows db fault = (t : Table) × (fault ≡ Damaged t) × IsNoClub db
