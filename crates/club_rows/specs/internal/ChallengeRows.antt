-- The row of a challenge, and the lookup by member and number. No promise of the program rests on these definitions.
use Rattle.std.specs.Prelude.{◌≡◌, ◌<◌, ◌^◌, ℕ, ℤ, pos, true, List, [], ◌∷◌, Option, Some, None, IfSome}
use Rattle.std.specs.Option.{option_map}
use Rattle.sqlite.specs.Order.{Row}
use Rattle.sqlite_rules.specs.Lists.{Has}
use Rattle.club_core.specs.declared.challenges.Challenge.{Challenge}
use Rattle.club_core.specs.declared.challenges.ChallengeState.{ChallengeState}
use Rattle.store_tables.specs.internal.Cells.{challenge_cells}
use Rattle.store_tables.specs.Content.{same_key}
use Rattle.store_tables.specs.declared.rows.ChallengeRow.{ChallengeRow}
use Rattle.club_rows.specs.Tables.{number, standing_number, game_started}

-- columns `state` and `game` have the values of this state
pub record StandsAs (state : ℤ) (game : Option ℤ) (standing : ChallengeState) : Type 0 where
  pub state_is : state ≡ pos (standing_number standing)
  pub game_is : game ≡ option_map pos (game_started standing)

-- the id of a started game fits in 32 bits
abbrev pub HasShortGame : ChallengeState → Type 0
HasShortGame standing = IfSome (game_started standing) (λ id. id < 2 ^ 32)

-- ids and numbers fit in 32 bits
pub record HasShortNumbers (c : Challenge) : Type 0 where
  pub member : c.member < 2 ^ 32
  pub own_number : c.number < 2 ^ 32
  pub event : c.event < 2 ^ 32
  pub other : c.other < 2 ^ 32
  pub game : HasShortGame c.standing

-- the key of a challenge: the member's id and the member's number for it
abbrev pub challenge_key : (member own_number : ℕ) → Row
challenge_key member own_number = number member ∷ number own_number ∷ []

-- the row of this member with this number, if there is one
abbrev pub IsChallengeFound : List Row → (member own_number : ℕ) → Option ChallengeRow → Type 0
IsChallengeFound rows member own_number None = (row : Row) → Has rows row
    → same_key (0 ∷ 1 ∷ []) row (challenge_key member own_number) ≡ true → ⊥
IsChallengeFound rows member own_number (Some found) = Has rows (challenge_cells found)
    × (same_key (0 ∷ 1 ∷ []) (challenge_cells found) (challenge_key member own_number) ≡ true)
