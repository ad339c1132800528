-- The list of overdue games agrees with the sweep. No promise of the program rests on these definitions.
use Rattle.std.specs.Prelude.{◌≡◌, ◌≢◌, ◌↔◌, ℕ, true}
use Rattle.club_core.specs.State.{is_late_any, swept_any}
use Rattle.club_rows.specs.Club.{ClubGame, ClubState, both_games}
use Rattle.club_lists.specs.GameSummary.{is_late}
use Rattle.club_answers.specs.Games.{game_summary_of}

-- a game is listed as overdue at a timestamp if and only if a sweep counts it
abbrev pub IsCounted : ClubState → ℕ → ℕ → ClubGame → Type 0
IsCounted s moment id game = is_late moment (game_summary_of s id game) ≡ is_late_any both_games s moment game

-- and if and only if a sweep ends it
abbrev pub IsSweptThen : ClubState → ℕ → ℕ → ClubGame → Type 0
IsSweptThen s moment id game =
    (is_late moment (game_summary_of s id game) ≡ true) ↔ (swept_any both_games s moment game ≢ game)
