-- The texts of the faults of an open club.
use Rattle.std.specs.Prelude.{List, ℕ, ◌++◌, codes}
use Rattle.std.specs.Fmt.{signed_decimal}
use Rattle.store.specs.declared.fault.StoreFault.{StoreFault}
use Rattle.store.specs.declared.fault.StoreFault.TheVariants as store_fault

-- the number and the name of the fault
abbrev pub store_fault_text : StoreFault → List ℕ
store_fault_text store_fault.Store = codes "73 Store"
store_fault_text store_fault.Reopen = codes "74 Reopen"
store_fault_text store_fault.Memory = codes "75 Memory"
store_fault_text (store_fault.Schema schema) = codes "71 Schema " ++ signed_decimal schema
