-- The text of a fault. No promise of the program rests on these definitions.
use Rattle.std.specs.Prelude.{ℕ, List, codes}
use Rattle.cross_tables.specs.declared.standings.StandingsFault.{StandingsFault}
use Rattle.cross_tables.specs.declared.standings.StandingsFault.TheVariants.{Memory, TooMany}

abbrev pub fault_text : StandingsFault → List ℕ
fault_text Memory = codes "out of memory"
fault_text TooMany = codes "a sum of scores does not fit"
