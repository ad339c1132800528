-- The running games of a member, each with its last move and its position.
use Rattle.std.specs.Prelude.{◌≡◌, ◌-◌, ℕ, List, [], ◌∷◌, length, Option, Some, slice_get}
use Rattle.club_core.specs.Game.{last_position}
use Rattle.club_core.specs.State.{draughts, shogi, place}
use Rattle.club_rows.specs.Club.{ClubGame, ClubState, both_games}
use Rattle.club_lists.specs.GameSummary.{Running}
use Rattle.club_lists.specs.Shows.{own_game_ids}
use Rattle.club_answers.specs.Boards.{moves_in}
use Rattle.club_answers.specs.Games.{game_summaries, game_summary_of}

-- the last of some texts, if there are any
abbrev pub last_text : List (List ℕ) → Option (List ℕ)
last_text texts = slice_get texts (length texts - 1)

-- the current position in the notation of the game
abbrev pub position_in : ClubGame → List ℕ
position_in (draughts game) = both_games.draughts.write_position (last_position both_games.draughts game)
position_in (shogi game) = both_games.shogi.write_position (last_position both_games.shogi game)

-- the game with this id, its last move and its current position
abbrev pub running_of : ClubState → ℕ → ClubGame → Running
running_of s id game =
    record { told = game_summary_of s id game; last = last_text (moves_in game); position = position_in game }

-- the games with these ids, in this order
abbrev pub AreRunningAt : ClubState → List ℕ → List Running → Type 0
AreRunningAt s [] games = games ≡ []
AreRunningAt s (id ∷ ids) games =
    (game : ClubGame) × (rest : List Running) × (place s.games id ≡ Some game) × AreRunningAt s ids rest
    × (games ≡ running_of s id game ∷ rest)

-- the running games of the member with this name, by id
abbrev pub AreOwnGames : ClubState → List ℕ → List Running → Type 0
AreOwnGames s name games = AreRunningAt s (own_game_ids s.members name (game_summaries s)) games
