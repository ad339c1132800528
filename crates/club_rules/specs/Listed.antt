-- The list of the legal moves of a position.
use Rattle.std.specs.Prelude.{◌≡◌, ◌↔◌, List, Contains, Ok}
use Rattle.std.specs.List.Sorted.{IsStrictlySortedBy}
use Rattle.club_rules.specs.GameRules.{GameRules}

-- exactly the legal moves, each once, in the game's move order
pub record IsLegalList {P M E T : Type 0} (rules : GameRules P M E T) (p : P) (moves : List M) : Type 0 where
  pub in_order : IsStrictlySortedBy rules.move_order moves
  pub members : (m : M) → Contains moves m ↔ (rules.check p m ≡ Ok tt)
