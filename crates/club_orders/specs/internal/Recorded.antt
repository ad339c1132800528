-- What is reported of an order that the club was not opened for. No promise of the program rests on these definitions.
use Rattle.std.specs.Prelude.{◌≡◌, ◌⊎◌, Bool, true, false}
use Rattle.club_check.specs.declared.fault.OpenFault.{OpenFault}
use Rattle.club_check.specs.declared.fault.OpenFault.TheVariants.{Store, Memory}
use Rattle.club_orders.specs.Recorded.{IfRecorded}
use Rattle.club_orders.specs.declared.report.Report.TheVariants.{Unopened}

-- a fault of the opening is the same whether the club can record the order or not
pub unopened_unrecorded : (can_record : Bool) {Holds : Type 0} (fault : OpenFault)
    → ((fault ≡ Store) ⊎ (fault ≡ Memory) → Holds) → (fault ≡ Store) ⊎ (fault ≡ Memory)
    → IfRecorded can_record (Unopened fault) Holds
unopened_unrecorded true fault goes is = goes is
unopened_unrecorded false fault goes is = is
