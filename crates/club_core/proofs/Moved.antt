-- A move, by what it found.
use Rattle.std.proofs.Common.{◌≡◌, ℕ, List, None, Ok, refl}
use Rattle.squares.specs.declared.sides.Side.{Side}
use Rattle.club_rules.specs.GameRules.{GameRules}
use Rattle.club_core.specs.Events.{Terms}
use Rattle.club_core.specs.Game.{Game, last_position}
use Rattle.club_core.specs.Step.{checked, move_at, move_refusal, plays, repeat_of, step_move}

module _ {P M E T : Type 0} (laws : GameRules P M E T) (terms : Terms) (game : Game M) (moment : ℕ) where
  pub move-accepted : (side : Side) (ply : ℕ) (text : List ℕ) (made : M)
      → repeat_of laws terms game ply (move_at game ply) side text ≡ None
      → move_refusal laws terms game moment side ply text ≡ None
      → checked laws (last_position laws game) (laws.read_move (last_position laws game) text) ≡ Ok made
      → step_move laws terms game moment side ply text ≡ plays laws terms game moment (Ok made)
  move-accepted side ply text made new allowed read = rw (new, allowed, read) refl
