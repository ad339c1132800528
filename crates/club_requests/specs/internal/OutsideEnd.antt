-- The ends outside the rules: their names as they are printed and stored, and their scores. No promise of the program
-- rests on these definitions.
use Rattle.std.specs.Prelude.{Bool, true}
use Rattle.club_requests.specs.declared.outside_end.OutsideEnd.{OutsideEnd}
use Rattle.club_requests.specs.declared.outside_end.OutsideEnd.TheVariants.{Resigned, Agreed, Time, Declared, Recorded}

-- whether a game can end this way, given whether there is a draw offer, the right to declare, and an imported game
abbrev pub outside_allowed : Bool → Bool → Bool → OutsideEnd → Bool
outside_allowed offered declarable imported Resigned = true
outside_allowed offered declarable imported Time = true
outside_allowed offered declarable imported Agreed = offered
outside_allowed offered declarable imported Declared = declarable
outside_allowed offered declarable imported (Recorded score) = imported
