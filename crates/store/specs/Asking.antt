-- Whether a club stays open after a query.
use Rattle.std.specs.Prelude.{Bool, true, false, Result, Ok, Err}
use Rattle.store.specs.declared.fault.AskFault.{AskFault}
use Rattle.store.specs.declared.fault.AskFault.TheVariants as ask_fault

-- false if a call of the club failed; a failed writer leaves the club open
abbrev pub stays_open : {A : Type 0} → Result A AskFault → Bool
stays_open (Ok a) = true
stays_open (Err ask_fault.Output) = true
stays_open (Err (ask_fault.Club fault)) = false
