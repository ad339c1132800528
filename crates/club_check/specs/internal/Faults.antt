-- The error for a table that could not be read. No promise of the program rests on these definitions.
use Rattle.store_tables.specs.declared.names.Table.{Table}
use Rattle.store_sql.specs.declared.fault.ReadFault.{ReadFault}
use Rattle.store_sql.specs.declared.fault.ReadFault.TheVariants as read
use Rattle.club_check.specs.declared.fault.OpenFault.{OpenFault}
use Rattle.club_check.specs.declared.fault.OpenFault.TheVariants as given

-- the error for this table
abbrev pub told : Table → ReadFault → OpenFault
told table read.Missing = given.Foreign
told table read.WrongType = given.Damaged table
told table read.Store = given.Store
told table read.Memory = given.Memory
