-- The games in texts of records.
use Rattle.std.specs.Prelude.{◌≡◌, Bool, true, List, ℕ, Some}
use Rattle.squares.specs.declared.sides.Score.{Score}
use Rattle.club_rules.specs.declared.records.RecordFormat.{RecordFormat}
use Rattle.club_rules.specs.declared.record_refusals.RecordRefusal.{RecordRefusal}
use Rattle.club_rules.specs.GameRules.{GameRules}
use Rattle.club_rules.specs.Line.{position_after, IsPlayedLine}

-- a game from the initial position: its moves, its score, and whether the side to move after them declared a win
pub record Recorded (M : Type 0) : Type 0 where
  pub moves : List M
  pub score : Score
  pub declared : Bool

-- the result of reading one part of a text: its game, no such part, or the refusal of the text
pub data Reading (M : Type 0) : Type 0 where
  game : Recorded M → Reading M
  no_part : Reading M
  refused : RecordRefusal → Reading M

-- the records of a game
pub record GameRecords (M : Type 0) : Type 0 where
  pub format : RecordFormat
  -- reads one part of a text; parts count from 1
  pub read : List ℕ → ℕ → Reading M

-- The moves are a line played by the rules. If the rules ended the game, the score is theirs. A declared win is one
-- that the side to move may declare.
pub record IsGameByRules {P M E T : Type 0} (rules : GameRules P M E T) (r : Recorded M) : Type 0 where
  pub line : IsPlayedLine rules rules.start r.moves
  pub score : (end : E) → rules.judge rules.start r.moves ≡ Some end
      → r.score ≡ rules.outcome end (rules.turn (position_after rules rules.start r.moves))
  pub declared : r.declared ≡ true → rules.can_declare (position_after rules rules.start r.moves) ≡ true

-- every game that is read is such a game
module _ {P M E T : Type 0} (rules : GameRules P M E T) (records : GameRecords M) where
  -- every game that is read from a text is played and scored by the rules
  abbrev pub ReadsGames : Type 0
  ReadsGames = (text : List ℕ) (part : ℕ) (r : Recorded M) → records.read text part ≡ game r → IsGameByRules rules r
