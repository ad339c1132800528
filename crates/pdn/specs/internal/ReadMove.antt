-- The move that a text denotes in a position. No promise of the program rests on these definitions.
use Rattle.std.specs.Prelude.{ℕ, List}
use Rattle.squares.specs.declared.draughts.moves.DMove.{DMove}
use Rattle.squares.specs.DraughtsBoard.{Position}
use Rattle.draughts_moves.specs.declared.checking.Illegal.{Illegal}
use Rattle.pdn.specs.declared.faults.MoveFault.{MoveFault}
use Rattle.pdn.specs.declared.faults.MoveFault.TheVariants as fault
use Rattle.pdn.specs.Forms.{Form}
use Rattle.pdn.specs.ReadMove.{Fits, IsAmbiguous, IsRefused}

-- a capture matches, legal or not
abbrev pub SomeFits : Position → ℕ → List ℕ → ℕ → Type 0
SomeFits p from middle to = (m : DMove) × Fits p from middle to m

-- the faults of a text that has a form
abbrev pub IsFormFault : Position → Form → MoveFault → Type 0
IsFormFault p form fault.Memory = Unit {0}
IsFormFault p form (fault.BadText offset) = ⊥
IsFormFault p form fault.Ambiguous = IsAmbiguous p form
IsFormFault p form (fault.Illegal cause) = IsRefused p form cause
