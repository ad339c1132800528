-- The record of a game, and the part of it that a writer has received.
use Rattle.std.specs.Prelude.{◌≡◌, Some, string_bytes}
use Rattle.std.specs.Option.{option_map}
use Rattle.club_rules.specs.GameRules.{GameRules}
use Rattle.club_core.specs.Game.{Game, end_of, result_of}
use Rattle.club_core.specs.State.{place, pairing_of}
use Rattle.club_exports.specs.Title.{Title}
use Rattle.club_rows.specs.Club.{ClubGame, ClubState}
use Rattle.club_answers.specs.declared.exported.RecordNames.{RecordNames}

-- the names of the event and of the players of a game
pub record AreNamesOf (s : ClubState) (game : ClubGame) (names : RecordNames) : Type 0 where
  pub event : Some (string_bytes names.event) ≡ option_map (λ e. e.name) (place s.events (pairing_of game).event)
  pub first : Some (string_bytes names.first) ≡ option_map (λ m. m.name) (place s.members (pairing_of game).first)
  pub second : Some (string_bytes names.second) ≡ option_map (λ m. m.name) (place s.members (pairing_of game).second)

module _ {P M E T : Type 0} (rules : GameRules P M E T) where
  -- the header of the record of a game with these names
  pub record IsTitleOf (names : RecordNames) (game : Game M) (title : Title E) : Type 0 where
    pub event : title.event ≡ string_bytes names.event
    pub first : title.first ≡ string_bytes names.first
    pub second : title.second ≡ string_bytes names.second
    pub start : title.start ≡ game.start
    pub end : title.end ≡ end_of rules game
    pub result : title.result ≡ result_of rules game
