-- The moves of a record from the initial position. No promise of the program rests on these definitions.
use Rattle.std.specs.Prelude.{◌≡◌, ◌⊎◌, List}
use Rattle.csa.specs.declared.faults.CsaFault.{CsaFault}
use Rattle.csa.specs.declared.faults.CsaFault.TheVariants as fault
use Rattle.csa.specs.declared.statements.WrittenMove.{WrittenMove}
use Rattle.csa.specs.Replays.{RefusesMove}

-- out of memory, or one of the written moves is refused
abbrev pub RefusesMoves : List WrittenMove → CsaFault → Type 0
RefusesMoves ws f = (f ≡ fault.Memory) ⊎ RefusesMove ws f
