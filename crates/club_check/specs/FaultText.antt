-- The texts of the errors of an opening.
use Rattle.std.specs.Prelude.{List, ℕ, ◌++◌, codes}
use Rattle.std.specs.Fmt.{signed_decimal}
use Rattle.store_tables.specs.Names.{table_name}
use Rattle.club_check.specs.declared.fault.OpenFault.{OpenFault}
use Rattle.club_check.specs.declared.fault.OpenFault.TheVariants as open_fault

-- the number and the name of the fault, with the schema number or the damaged table if it has one
abbrev pub open_fault_text : OpenFault → List ℕ
open_fault_text open_fault.Foreign = codes "70 Foreign"
open_fault_text (open_fault.Schema number) = codes "71 Schema " ++ signed_decimal number
open_fault_text (open_fault.Damaged table) = codes "72 Damaged " ++ table_name table
open_fault_text open_fault.Store = codes "73 Store"
open_fault_text open_fault.Memory = codes "75 Memory"
