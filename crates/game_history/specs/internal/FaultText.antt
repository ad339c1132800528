-- The text of a fault, for a game whose refusals have texts. No promise of the program rests on these definitions.
use Rattle.std.specs.Prelude.{ℕ, List, ◌++◌, codes, Option, Some}
use Rattle.std.specs.Fmt.{decimal}
use Rattle.std.specs.Option.{option_map}
use Rattle.game_history.specs.declared.faults.LineFault.{LineFault}
use Rattle.game_history.specs.declared.faults.LineFault.TheVariants.{Memory, Illegal, AfterEnd}

module _ {C : Type 0} (cause_text : C → Option (List ℕ)) where
  abbrev pub fault_text : LineFault C → Option (List ℕ)
  fault_text Memory = Some (codes "out of memory")
  fault_text (Illegal ply cause) =
      option_map (λ text. codes "ply " ++ decimal ply ++ codes ": " ++ text) (cause_text cause)
  fault_text (AfterEnd ply) = Some (codes "ply " ++ decimal ply ++ codes ": the game has ended")
