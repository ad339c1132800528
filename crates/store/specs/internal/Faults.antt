-- The fault of a club whose database call failed. No promise of the program rests on these definitions.
use Rattle.store.specs.declared.fault.StoreFault.{StoreFault}
use Rattle.store.specs.declared.fault.StoreFault.TheVariants as named
use Rattle.club_reads.specs.declared.fault.LookupFault.{LookupFault}
use Rattle.club_reads.specs.declared.fault.LookupFault.TheVariants as call

abbrev pub called : LookupFault → StoreFault
called call.Store = named.Store
called call.Memory = named.Memory
