-- The text written for a finished game is read as that game. No promise of the program rests on these definitions.
use Rattle.std.specs.Prelude.{◌≡◌, ◌≢◌, ℕ, true, Some, List, [], ◌∷◌, length}
use Rattle.clocks.specs.declared.dates.CivilTime.{CivilTime}
use Rattle.squares.specs.declared.sides.Score.{Score}
use Rattle.squares.specs.declared.draughts.moves.DMove.{DMove}
use Rattle.squares.specs.DraughtsOpening.{opening}
use Rattle.draughts_draws.specs.Line.{last_position}
use Rattle.draughts_draws.specs.Ends.{end_of}
use Rattle.draughts_draws.specs.Faults.{IsPlayed}
use Rattle.pdn_games.specs.declared.game.PdnGame.{PdnGame}
use Rattle.pdn_games.specs.Reading.{agrees, score_by_rules}
use Rattle.pdn_games.specs.internal.Reading.{IsTextOf}
use Rattle.pdn_games.specs.Writing.{game_text}

-- a text without quotes and backslashes
abbrev pub IsPlain : List ℕ → Type 0
IsPlain [] = Unit {0}
IsPlain (c ∷ text) = (c ≢ 34) × (c ≢ 92) × IsPlain text

-- a game that its text preserves: plain names, a legal line, and the score of the rules if they ended the game
pub record IsKept (event white black : List ℕ) (score : Score) (ms : List DMove) : Type 0 where
  pub event_plain : IsPlain event
  pub white_plain : IsPlain white
  pub black_plain : IsPlain black
  pub played : IsPlayed opening ms (length ms)
  pub agreed : agrees score (score_by_rules (end_of opening ms) (last_position opening ms).turn) ≡ true

-- the text of such a game is the text of its moves and its score
abbrev pub WrittenIsRead : Type 0
WrittenIsRead =
    (event white black : List ℕ) (date : CivilTime) (score : Score) (ms : List DMove) (g : PdnGame) →
    IsKept event white black score ms → g.moves.items ≡ ms → g.score ≡ score
    → IsTextOf (game_text event date white black (Some score) ms) g
