-- Maps the rulings in the code to those of the specification. No promise of the program rests on these definitions.
use Rattle.std.specs.Prelude.{List, map}
use Rattle.club_core.specs.Rulings.{GivenRuling}
use Rattle.club_core.specs.declared.rulings.GivenRuling as declared

abbrev pub given_by : declared.GivenRuling → GivenRuling
given_by given = record { ruling = given.ruling; moment = given.moment; plies = given.plies }

-- the same for a list
abbrev pub rulings_by : List declared.GivenRuling → List GivenRuling
rulings_by rulings = map given_by rulings
