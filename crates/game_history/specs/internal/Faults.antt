-- Legal sequences of moves, and the faults of the others. No promise of the program rests on these definitions.
use Rattle.std.specs.Prelude.{◌≡◌, ◌<◌, ◌+◌, ℕ, List, length, take, slice_get, Some, None}
use Rattle.game_history.specs.declared.faults.LineFault.{LineFault}
use Rattle.game_history.specs.declared.faults.LineFault.TheVariants.{Memory, Illegal, AfterEnd}
use Rattle.game_history.specs.Line.{position_after}
use Rattle.game_history.specs.Faults.{LineRules, IsPlayed}

module _ {P M E C : Type 0} (rules : LineRules P M E C) where
  -- The fault of the first ply that breaks the rules; plies count from 1. It is `AfterEnd` if the game had ended before
  -- the ply, whatever the move is, otherwise `Illegal`. Nothing is said about when memory runs out.
  abbrev pub HasFault : P → List M → LineFault C → Type 0
  HasFault start ms Memory = Unit {0}
  HasFault start ms (AfterEnd ply) = (k : ℕ) × (end : E) × (ply ≡ k + 1) × (k < length ms) × IsPlayed rules start ms k
      × rules.EndsSo start (take k ms) (Some end)
  HasFault start ms (Illegal ply cause) =
      (k : ℕ) × (m : M) × (ply ≡ k + 1) × (slice_get ms k ≡ Some m) × IsPlayed rules start ms k
      × rules.EndsSo start (take k ms) None × rules.IsRefused (position_after rules.play start ms k) m cause
