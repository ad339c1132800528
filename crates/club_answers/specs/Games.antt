-- The entries of games in lists.
use Rattle.std.specs.Prelude.{ℕ, suc, List, [], ◌∷◌, length, Option, Some, None, max}
use Rattle.std.specs.Option.{option_map}
use Rattle.squares.specs.Sides.{score_text}
use Rattle.squares.specs.declared.sides.Side.{Side}
use Rattle.club_rules.specs.GameRules.{GameRules}
use Rattle.club_core.specs.Events.{Terms}
use Rattle.club_core.specs.Game.{Game, clocks_of, end_of, score_with, turn_of}
use Rattle.club_core.specs.State.{draughts, shogi, place, terms_at}
use Rattle.club_core.specs.declared.rows.GameEnd.{GameEnd}
use Rattle.club_rows.specs.Club.{ClubGame, ClubState, both_games}
use Rattle.club_rows.specs.Tables.{end_name_text}
use Rattle.club_lists.specs.GameSummary.{Over, GameSummary}

module _ {P M E T : Type 0} (rules : GameRules P M E T) where
  -- how a game ended, with this side to move
  abbrev pub over_of : Side → Option (GameEnd E) → Option Over
  over_of turn None = None
  over_of turn (Some end) =
      Some
      (record {
        end = end_name_text rules end;
        result = option_map score_text (score_with rules (Some end) turn);
      })

  -- the entry of the game with this id, by its rules
  abbrev pub game_summary_by_rules : Terms → ℕ → Game M → GameSummary
  game_summary_by_rules terms id game = record {
    id = id;
    event = game.event;
    first = game.first;
    second = game.second;
    key = game.key;
    plies = length game.entries;
    turn = turn_of rules game;
    clocks = clocks_of game terms;
    offer = option_map (λ o. o.side) game.offer;
    over = over_of (turn_of rules game) (end_of rules game);
  }

-- the entry of a game of the club
abbrev pub game_summary_of : ClubState → ℕ → ClubGame → GameSummary
game_summary_of s id (draughts game) =
    game_summary_by_rules both_games.draughts (terms_at (place s.events game.event)) id game
game_summary_of s id (shogi game) =
    game_summary_by_rules both_games.shogi (terms_at (place s.events game.event)) id game

-- the entries of games whose ids count up from this one
abbrev pub game_summaries_from : ClubState → ℕ → List ClubGame → List GameSummary
game_summaries_from s id [] = []
game_summaries_from s id (game ∷ games) = game_summary_of s id game ∷ game_summaries_from s (suc id) games

-- the entries of all games of the club
abbrev pub game_summaries : ClubState → List GameSummary
game_summaries s = game_summaries_from s 1 s.games

-- the effective timestamp: the later of the request's and that of the last accepted request
abbrev pub effective_moment : ClubState → ℕ → ℕ
effective_moment s moment = max moment s.last
