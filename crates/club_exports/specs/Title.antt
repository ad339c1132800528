-- The header data of a record, and its moves with the seconds that each took.
use Rattle.std.specs.Prelude.{ℕ, ◌-◌, List, [], ◌∷◌, Option}
use Rattle.squares.specs.declared.sides.Score.{Score}
use Rattle.club_core.specs.declared.rows.GameEnd.{GameEnd}
use Rattle.club_core.specs.Game.{Entry}

-- names of the event and the players, timestamp of the start, and end and score (none while the game is running)
pub record Title (E : Type 0) : Type 0 where
  pub event : List ℕ
  pub first : List ℕ
  pub second : List ℕ
  pub start : ℕ
  pub end : Option (GameEnd E)
  pub result : Option Score

-- the moves of entries, each with the seconds since the previous one
abbrev pub timed : {M : Type 0} → ℕ → List (Entry M) → List (M × ℕ)
timed since [] = []
timed since (e ∷ es) = (e.made, e.moment - since) ∷ timed e.moment es
