-- An offer of a draw, by what it found.
use Rattle.std.proofs.Common.{◌≡◌, ℕ, None, true, refl}
use Rattle.squares.specs.declared.sides.Side.{Side}
use Rattle.club_rules.specs.GameRules.{GameRules}
use Rattle.club_requests.specs.Outcome.{accepted, draw_offered}
use Rattle.club_core.specs.Game.{Game}
use Rattle.club_core.specs.Step.{offered, repeat_of_offer, offer_refusal, step_offer}

module _ {P M E T : Type 0} (laws : GameRules P M E T) (game : Game M) where
  pub offer-accepted : (side : Side) (ply : ℕ) → laws.has_draw_offers ≡ true
      → repeat_of_offer game.offer side ply ≡ None → offer_refusal laws game side ply ≡ None
      → step_offer laws game side ply ≡ accepted (offered game (record { side = side; ply = ply })) (draw_offered ply)
  offer-accepted side ply draws new allowed = rw (draws, new, allowed) refl
