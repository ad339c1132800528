-- Legal sequences of moves, and the faults of the others.
use Rattle.std.specs.Prelude.{◌≡◌, ◌<◌, ℕ, List, take, slice_get, Option, Some, None}
use Rattle.game_history.specs.Line.{position_after}

-- The rules of a game with positions P, moves M, ends E and refusals C.
pub record LineRules (P M E C : Type 0) : Type 1 where
  -- The position after a move.
  pub play : P → M → P
  pub Legal : P → M → Type 0
  pub IsRefused : P → M → C → Type 0
  -- A sequence of moves ends the game, or the game goes on (`None`).
  pub EndsSo : P → List M → Option E → Type 0

module _ {P M E C : Type 0} (rules : LineRules P M E C) where
  -- After k plies the game goes on, and the next move is legal.
  pub record GoesOn (start : P) (ms : List M) (k : ℕ) : Type 0 where
    pub unended : rules.EndsSo start (take k ms) None
    pub legal : (m : M) → slice_get ms k ≡ Some m → rules.Legal (position_after rules.play start ms k) m

  -- The first n plies follow the rules: each move is legal in its position, and the game did not end before it.
  abbrev pub IsPlayed : P → List M → ℕ → Type 0
  IsPlayed start ms n = (k : ℕ) → k < n → GoesOn start ms k
