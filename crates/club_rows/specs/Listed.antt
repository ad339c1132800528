-- The legal moves of a game in notation.
use Rattle.std.specs.Prelude.{◌≡◌, ℕ, List, [], map, None, IsSome}
use Rattle.club_rules.specs.GameRules.{GameRules}
use Rattle.club_rules.specs.Listed.{IsLegalList}
use Rattle.club_core.specs.Game.{Game, last_position, end_of}

-- the notation of each legal move of the position, in the order of the rules
pub record AreMovesWritten {P M E T : Type 0} (rules : GameRules P M E T) (p : P) (texts : List (List ℕ)) : Type 0 where
  pub moves : List M
  pub legal : IsLegalList rules p moves
  pub written : texts ≡ map (rules.write_move p) moves

-- the legal moves of the last position of a running game; none if it has ended
pub record AreLegalTexts {P M E T : Type 0} (rules : GameRules P M E T) (game : Game M) (texts : List (List ℕ)) : Type 0
  where
    pub ended : IsSome (end_of rules game) → texts ≡ []
    pub running : end_of rules game ≡ None → AreMovesWritten rules (last_position rules game) texts
