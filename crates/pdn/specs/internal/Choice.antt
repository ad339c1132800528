-- The choice of the only matching move. No promise of the program rests on these definitions.
use Rattle.std.specs.Prelude.{◌≡◌, ◌≢◌, Option, Some, None, List}
use Rattle.squares.specs.declared.draughts.moves.DMove.{DMove}
use Rattle.squares.specs.internal.In.{In}
use Rattle.pdn.specs.declared.faults.MoveFault.{MoveFault}
use Rattle.pdn.specs.declared.faults.MoveFault.TheVariants as fault

-- no move matches, or this one and no other
abbrev pub IsChoice : (DMove → Type 0) → List DMove → Option DMove → Type 0
IsChoice F moves None = (n : DMove) → In n moves → F n → ⊥
IsChoice F moves (Some m) = In m moves × F m × ((n : DMove) → In n moves → F n → n ≡ m)

-- two different moves match
abbrev pub IsTie : (DMove → Type 0) → List DMove → Type 0
IsTie F moves = (m : DMove) × (n : DMove) × In m moves × F m × In n moves × F n × (m ≢ n)

-- the fault if there is no unique choice
abbrev pub IsChoiceFault : (DMove → Type 0) → List DMove → MoveFault → Type 0
IsChoiceFault F moves fault.Memory = Unit {0}
IsChoiceFault F moves (fault.BadText offset) = ⊥
IsChoiceFault F moves fault.Ambiguous = IsTie F moves
IsChoiceFault F moves (fault.Illegal cause) = ⊥

-- the choice after one more matching move: it is the first or the same one, else there is a tie
abbrev pub Joins : Option DMove → DMove → DMove → Type 0
Joins None n m = m ≡ n
Joins (Some other) n m = (m ≡ n) × (m ≡ other)

abbrev pub Parts : Option DMove → DMove → MoveFault → Type 0
Parts None n e = ⊥
Parts (Some other) n e = (e ≡ fault.Ambiguous) × (other ≢ n)
