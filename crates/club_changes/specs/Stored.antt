-- A game of the club as it is stored.
use Rattle.std.specs.Prelude.{◌≡◌, ℕ, List, Option, Some, None}
use Rattle.club_core.specs.State.{draughts, shogi, place}
use Rattle.club_rows.specs.Club.{ClubGame, ClubState, both_games}
use Rattle.club_rows.specs.Listed.{AreLegalTexts}

-- the legal moves of this game in notation
abbrev pub AreMovesOf : ClubGame → List (List ℕ) → Type 0
AreMovesOf (draughts game) texts = AreLegalTexts both_games.draughts game texts
AreMovesOf (shogi game) texts = AreLegalTexts both_games.shogi game texts

-- the legal moves of the game with this id, if there is one
abbrev pub AreLegalRows : ClubState → ℕ → Option (List (List ℕ)) → Type 0
AreLegalRows s id None = place s.games id ≡ None
AreLegalRows s id (Some texts) = (game : ClubGame) × (place s.games id ≡ Some game) × AreMovesOf game texts
