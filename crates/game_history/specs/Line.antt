-- A game history: the positions of a sequence of moves, as a fold over the moves.
use Rattle.std.specs.Prelude.{◌≡◌, ◌<◌, ◌≤◌, ℕ, Bool, List, [], ◌∷◌, length, take, count_by}

module _ {P M : Type 0} (play : P → M → P) where
  -- The last position of a sequence of moves.
  abbrev pub last_position : P → List M → P
  last_position p [] = p
  last_position p (m ∷ ms) = last_position (play p m) ms

  -- The position after k plies.
  abbrev pub position_after : P → List M → ℕ → P
  position_after p ms k = last_position p (take k ms)

  -- All positions of a sequence of moves, from the first to the last.
  abbrev pub positions : P → List M → List P
  positions p [] = p ∷ []
  positions p (m ∷ ms) = p ∷ positions (play p m) ms

  -- The position occurs for the first time after f plies.
  pub record FirstAt (start : P) (ms : List M) (p : P) (f : ℕ) : Type 0 where
    pub within : f ≤ length ms
    pub stands : position_after start ms f ≡ p
    pub earliest : (k : ℕ) → k < f → position_after start ms k ≡ p → ⊥

  -- The last position occurs for the first time after f plies.
  abbrev pub FirstOccurs : P → List M → ℕ → Type 0
  FirstOccurs start ms f = FirstAt start ms (last_position start ms) f

  module _ (same : P → P → Bool) where
    -- The repetition count of a position.
    abbrev pub times_at : P → List M → P → ℕ
    times_at start ms p = count_by (λ q. same q p) (positions start ms)

    -- The repetition count of the last position.
    abbrev pub times_stood : P → List M → ℕ
    times_stood start ms = times_at start ms (last_position start ms)
