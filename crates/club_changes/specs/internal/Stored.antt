-- A game of the club as it is stored. No promise of the program rests on these definitions.
use Rattle.std.specs.Prelude.{◌≡◌, ℕ, Option, Some, None}
use Rattle.club_core.specs.State.{place, kind_at, terms_at, pairing_of}
use Rattle.club_rows.specs.Club.{ClubGame, ClubState}
use Rattle.club_rows.specs.internal.Replay.{terms_given}
use Rattle.store_tables.specs.Cells.{game_cells}
use Rattle.club_changes.specs.declared.stored.StoredGame.{StoredGame}
use Rattle.club_changes.specs.internal.Steps.{game_in}

-- the row is that of this game of the club, with the kind and the terms of its event
pub record IsStoredGame (s : ClubState) (id : ℕ) (game : ClubGame) (stored : StoredGame) : Type 0 where
  pub id_is : stored.id ≡ id
  pub kind : stored.kind ≡ kind_at (place s.events (pairing_of game).event)
  pub terms : terms_given stored.terms ≡ terms_at (place s.events (pairing_of game).event)
  pub row : game_cells stored.row ≡ game_in s id game

-- the game with this id, if there is one
abbrev pub IsFoundGame : ClubState → ℕ → Option StoredGame → Type 0
IsFoundGame s id None = place s.games id ≡ None
IsFoundGame s id (Some stored) = (game : ClubGame) × (place s.games id ≡ Some game) × IsStoredGame s id game stored
