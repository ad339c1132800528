-- A game as members see it: players, event, and the state of play.
use Rattle.std.specs.Prelude.{◌≡◌, ℕ, List, length, map, Option, Some, None, string_bytes}
use Rattle.std.specs.Option.{option_map}
use Rattle.club_rules.specs.GameRules.{GameRules}
use Rattle.club_rules.specs.declared.names.EndName.{EndName}
use Rattle.club_core.specs.declared.rows.GameEnd.{GameEnd}
use Rattle.club_core.specs.declared.rows.GameEnd.TheVariants.{Rule, Verdict, Outside}
use Rattle.club_core.specs.Events.{Terms}
use Rattle.club_core.specs.Game.{Game, clocks_of, moves_of, last_position, end_of, result_of}
use Rattle.club_core.specs.State.{draughts, shogi, place, terms_at, pairing_of}
use Rattle.club_analysis.specs.Tried.{notation_from}
use Rattle.club_rows.specs.Club.{ClubGame, ClubState, both_games}
use Rattle.club_answers.specs.declared.viewed.GameProgress.{GameProgress}
use Rattle.club_answers.specs.declared.viewed.ViewedGame.{ViewedGame}

-- the name of an end that the rules define; any other end is unchanged
abbrev pub named : {P M E T : Type 0} → GameRules P M E T → GameEnd E → GameEnd EndName
named rules (Rule e) = Rule (rules.end_name e)
named rules (Verdict v) = Verdict v
named rules (Outside o) = Outside o

module _ {P M E T : Type 0} (rules : GameRules P M E T) where
  -- the state of play is that of the game
  pub record IsPlayed (terms : Terms) (game : Game M) (played : GameProgress) : Type 0 where
    pub ply : played.ply ≡ length game.entries
    pub left_first : played.left_first ≡ (clocks_of game terms).left_first
    pub left_second : played.left_second ≡ (clocks_of game terms).left_second
    pub position : string_bytes played.position ≡ rules.write_position (last_position rules game)
    pub moves : map (λ t. string_bytes t) played.moves.items ≡ notation_from rules rules.start (moves_of game)
    pub offer : played.offer ≡ option_map (λ o. o.side) game.offer
    pub end : played.end ≡ option_map (named rules) (end_of rules game)
    pub result : played.result ≡ result_of rules game

-- the state of play of a game of the club
abbrev pub IsPlayedIn : ClubState → ClubGame → GameProgress → Type 0
IsPlayedIn s (draughts game) played = IsPlayed both_games.draughts (terms_at (place s.events game.event)) game played
IsPlayedIn s (shogi game) played = IsPlayed both_games.shogi (terms_at (place s.events game.event)) game played

-- the state of play of a game, with the names of its event and of its players
pub record IsViewOf (s : ClubState) (game : ClubGame) (viewed : ViewedGame) : Type 0 where
  pub event : Some (string_bytes viewed.event) ≡ option_map (λ e. e.name) (place s.events (pairing_of game).event)
  pub first : Some (string_bytes viewed.first) ≡ option_map (λ m. m.name) (place s.members (pairing_of game).first)
  pub second : Some (string_bytes viewed.second) ≡ option_map (λ m. m.name) (place s.members (pairing_of game).second)
  pub played : IsPlayedIn s game viewed.played

-- the view of the game with this number, if there is one
abbrev pub IsViewed : ClubState → ℕ → Option ViewedGame → Type 0
IsViewed s id None = place s.games id ≡ None
IsViewed s id (Some viewed) = (game : ClubGame) × (place s.games id ≡ Some game) × IsViewOf s game viewed
