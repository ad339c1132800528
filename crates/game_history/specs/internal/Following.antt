-- A value that represents a game history and is updated ply by ply. No promise of the program rests on these
-- definitions.
use Rattle.std.specs.Prelude.{List, [], ◌∷◌, ◌++◌}
use Rattle.game_history.specs.declared.faults.LineFault.{LineFault}
use Rattle.game_history.specs.Faults.{LineRules}
use Rattle.game_history.specs.internal.Faults.{HasFault}

module _ {P M S : Type 0} (Follows : P → List M → S → Type 0) where
  -- A value that represents a history now represents that history with one more move.
  abbrev pub GrowsBy : M → S → S → Type 0
  GrowsBy m old new = (start : P) (ms : List M) → Follows start ms old → Follows start (ms ++ m ∷ []) new

  -- A value that represents a history still represents it.
  abbrev pub StaysSo : S → S → Type 0
  StaysSo old new = (start : P) (ms : List M) → Follows start ms old → Follows start ms new

  -- The represented history with one more move has the fault.
  abbrev pub RefusesNext : {E C : Type 0} → LineRules P M E C → M → S → LineFault C → Type 0
  RefusesNext rules m old fault = (start : P) (ms : List M) → Follows start ms old
      → HasFault rules start (ms ++ m ∷ []) fault
