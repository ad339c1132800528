-- A game, its clock and its legal moves in one text.
use Rattle.std.specs.Prelude.{◌≡◌, ℕ, List, Some}
use Rattle.serde_json.specs.Data.{Data}
use Rattle.serde_json.specs.Written.{compact_text}
use Rattle.club_core.specs.State.{kind_at, pairing_of, place}
use Rattle.club_rows.specs.Club.{ClubGame, ClubState}
use Rattle.club_changes.specs.Stored.{AreMovesOf}
use Rattle.club_answers.specs.Games.{effective_moment, game_summary_of}
use Rattle.club_answers.specs.GameBodies.{shown_of}
use Rattle.club_answers.specs.Viewed.{IsViewOf}
use Rattle.club_answers.specs.declared.viewed.ViewedGame.{ViewedGame}
use Rattle.club_lists.specs.Bodies.{game_data}
use Rattle.club_lists.specs.Clock.{clock_data}
use Rattle.club_lists.specs.Lines.{game_name}
use Rattle.club_lists.specs.Page.{page_data}

-- the clock of this game of the club
abbrev pub clock_of : ClubState → ℕ → ℕ → ClubGame → Data
clock_of s moment id game = clock_data s.members (effective_moment s moment) (game_summary_of s id game)

-- the game that is played in its event
abbrev pub kind_of : ClubState → ClubGame → List ℕ
kind_of s game = game_name (kind_at (place s.events (pairing_of game).event))

-- its clock, its JSON, its kind and its legal moves
abbrev pub IsPageOf : ClubState → ℕ → ℕ → ClubGame → List ℕ → Type 0
IsPageOf s moment id game text =
    (viewed : ViewedGame) × IsViewOf s game viewed × (rows : List (List ℕ)) × AreMovesOf game rows
    × (text ≡ compact_text
    (page_data (clock_of s moment id game) (game_data id (shown_of viewed)) (kind_of s game) rows))

-- the page of the game with this number
abbrev pub IsPageText : ClubState → ℕ → ℕ → List ℕ → Type 0
IsPageText s moment id text = (game : ClubGame) × (place s.games id ≡ Some game) × IsPageOf s moment id game text
