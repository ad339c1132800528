-- The check of the rows of challenges. No promise of the program rests on these definitions.
use Rattle.std.specs.Prelude.{◌≡◌, ◌≢◌, ◌<◌, ◌≤◌, ℕ, pos, List, map, length, Some, IsTrue, slice_get}
use Rattle.club_core.specs.declared.challenges.Challenge.{Challenge}
use Rattle.club_core.specs.declared.challenges.ChallengeState.TheVariants.{Accepted}
use Rattle.club_core.specs.Challenges.{key_of_challenge, pairing_for}
use Rattle.club_core.specs.LegalState.{Each, HaveUniqueKeys}
use Rattle.club_requests.specs.Limits.{is_challenge_number}
use Rattle.club_core.specs.declared.seats.Pairing.{Pairing}
use Rattle.store_tables.specs.internal.Cells.{challenge_cells}
use Rattle.store_tables.specs.declared.rows.ChallengeRow.{ChallengeRow}
use Rattle.store_tables.specs.declared.rows.GameTableRow.{GameTableRow}
use Rattle.store_tables.specs.declared.rows.Rows.{Rows}
use Rattle.club_rows.specs.internal.ChallengeRows.{HasShortGame, HasShortNumbers}
use Rattle.club_rows.specs.EachOnce.{AreEachOnce}
use Rattle.club_rows.specs.Tables.{challenge_row}

-- the game has this event and these players on these sides
pub record IsRowOfPairing (game : GameTableRow) (pairing : Pairing) : Type 0 where
  pub event : game.event ≡ pos pairing.event
  pub first : game.first ≡ pos pairing.first
  pub second : game.second ≡ pos pairing.second

-- one of the games has this id, event and players
pub record IsGameAmong (games : List GameTableRow) (id : ℕ) (pairing : Pairing) : Type 0 where
  pub place : ℕ
  pub row : GameTableRow
  pub at : slice_get games place ≡ Some row
  pub id_is : row.id ≡ pos id
  pub of : IsRowOfPairing row pairing

-- an accepted challenge refers to a game of its event between its two members, on the right sides
abbrev pub HasItsGame : List GameTableRow → Challenge → Type 0
HasItsGame games c = (id : ℕ) → c.standing ≡ Accepted id → IsGameAmong games id (pairing_for c)

-- the id is in 1..=length
abbrev pub IsIdAmong : {A : Type 0} → List A → ℕ → Type 0
IsIdAmong xs id = (0 < id) × (id ≤ length xs)

-- the challenge is possible with these rows of members, events and games
pub record IsChallengeAmong (rows : Rows) (c : Challenge) : Type 0 where
  pub number : IsTrue (is_challenge_number c.number)
  pub member : IsIdAmong rows.members.items c.member
  pub other : IsIdAmong rows.members.items c.other
  pub apart : c.member ≢ c.other
  pub event : IsIdAmong rows.events.items c.event
  pub game : HasItsGame rows.games.items c

-- the row is that of such a challenge
pub record IsChallengeOf (rows : Rows) (row : ChallengeRow) : Type 0 where
  pub challenge : Challenge
  pub cells : challenge_cells row ≡ challenge_row challenge
  pub short : HasShortNumbers challenge
  pub among : IsChallengeAmong rows challenge

-- The rows are those of these challenges, each once and in any order; they are challenges of a legal club. Ids of
-- started games fit in 32 bits.
pub record AreChallenges (challenges : List Challenge) (rows : Rows) : Type 0 where
  pub rows_are : AreEachOnce (map challenge_cells rows.challenges.items) (map challenge_row challenges)
  pub legal : Each (IsChallengeAmong rows) challenges
  pub short : Each (λ c. HasShortGame c.standing) challenges
  pub numbers : HaveUniqueKeys key_of_challenge challenges
