-- When the rows of a table are right, given the tables before it, and which table an error names.
use Rattle.std.specs.Prelude.{◌≡◌, ◌≢◌, ◌<◌, ◌≤◌, ◌^◌, ℕ, List, map, IsTrue}
use Rattle.sqlite.specs.Effect.{Database}
use Rattle.sqlite.specs.Order.{Row, column}
use Rattle.sqlite_rules.specs.Lists.{Has}
use Rattle.store_tables.specs.Changes.{HaveSame}
use Rattle.store_tables.specs.Contents.{Content}
use Rattle.store_tables.specs.declared.names.Table.{Table}
use Rattle.store_tables.specs.declared.names.Table.TheVariants.{Members, Events, EventRules, Challenges, Moves, Games}
use Rattle.store_tables.specs.declared.names.Table.TheVariants.{Seen, Scores, Meta, Keys, Rulings, Closings}
use Rattle.store_tables.specs.declared.names.Version.{Version}
use Rattle.store_tables.specs.declared.names.Version.TheVariants.{V1, V2}
use Rattle.store_tables.specs.Names.{tree_of}
use Rattle.club_rows.specs.Club.{ClubState}
use Rattle.club_rows.specs.FirstSchema.{IsClubOf, tables_at}
use Rattle.club_rows.specs.Tables.{challenge_row, number}
use Rattle.club_core.specs.declared.challenges.Challenge.{Challenge}
use Rattle.club_core.specs.declared.challenges.ChallengeState.TheVariants.{Accepted}
use Rattle.club_core.specs.Challenges.{key_of_challenge, pairing_for}
use Rattle.club_core.specs.LegalState.{HaveUniqueKeys, Each}
use Rattle.club_core.specs.declared.seats.Pairing.{Pairing}
use Rattle.club_requests.specs.Limits.{is_challenge_number}
use Rattle.club_audit.specs.FirstWrong.{order}
use Rattle.club_check.specs.Versions.{HoldsRows}
use Rattle.club_check.specs.RightMoves.{HaveMoves, HaveRulings}
use Rattle.club_check.specs.declared.fault.OpenFault.{OpenFault}
use Rattle.club_check.specs.declared.fault.OpenFault.TheVariants.{Damaged}

-- ---- when a table is right

-- the rows of a table
abbrev pub rows_in : Table → Content → List Row
rows_in Members content = content (tree_of Members)
rows_in Events content = content (tree_of Events)
rows_in EventRules content = content (tree_of EventRules)
rows_in Challenges content = content (tree_of Challenges)
rows_in Moves content = content (tree_of Moves)
rows_in Games content = content (tree_of Games)
rows_in Seen content = content (tree_of Seen)
rows_in Scores content = content (tree_of Scores)
rows_in Meta content = content (tree_of Meta)
rows_in Keys content = content (tree_of Keys)
rows_in Rulings content = content (tree_of Rulings)
rows_in Closings content = content (tree_of Closings)

-- the schema of the version has this table
abbrev pub HasTable : Table → Version → Type 0
HasTable EventRules V1 = ⊥
HasTable Keys V1 = ⊥
HasTable Keys V2 = ⊥
HasTable Rulings V1 = ⊥
HasTable Rulings V2 = ⊥
HasTable Closings V1 = ⊥
HasTable Closings V2 = ⊥
HasTable t version = Unit {0}

-- A legal club of this version has the rows of this table and of each table before it.
pub record AreOfClub (version : Version) (t : Table) (content : Content) : Type 0 where
  pub state : ClubState
  pub legal : IsClubOf version state
  pub same : (u : Table) → HasTable u version → order u ≤ order t
      → HaveSame (rows_in u content) (rows_in u (tables_at version state))

-- a row has this id
abbrev pub HasId : List Row → ℕ → Type 0
HasId rows id = (row : Row) × Has rows row × (column row 0 ≡ number id)

-- A row of games has this id, this event and these players, each on its side.
pub record HasGame (games : List Row) (id : ℕ) (pairing : Pairing) : Type 0 where
  pub row : Row
  pub there : Has games row
  pub id_is : column row 0 ≡ number id
  pub event_is : column row 2 ≡ number pairing.event
  pub first_is : column row 3 ≡ number pairing.first
  pub second_is : column row 4 ≡ number pairing.second

-- The challenge names members, an event and, if it was accepted, a game, all of which exist.
pub record IsChallengeIn (content : Content) (c : Challenge) : Type 0 where
  pub number : IsTrue (is_challenge_number c.number)
  pub member : HasId (content (tree_of Members)) c.member
  pub other : HasId (content (tree_of Members)) c.other
  pub apart : c.member ≢ c.other
  pub event : HasId (content (tree_of Events)) c.event
  pub game : (id : ℕ) → c.standing ≡ Accepted id → (id < 2 ^ 32) × HasGame (content (tree_of Games)) id (pairing_for c)

-- The rows are those of such challenges, and no two of one member have the same number.
pub record HaveChallenges (content : Content) : Type 0 where
  pub challenges : List Challenge
  pub same : HaveSame (content (tree_of Challenges)) (map challenge_row challenges)
  pub each : Each (IsChallengeIn content) challenges
  pub numbers : HaveUniqueKeys key_of_challenge challenges

-- The table is right: a legal club has its rows with those of the tables before it. Challenges, moves and rulings refer
-- to games, a later table, so they have conditions of their own.
abbrev pub IsRight : Table → Version → Content → Type 0
IsRight Challenges version content = HaveChallenges content
IsRight Moves version content = HaveMoves version content
IsRight Rulings version content = HaveRulings version content
IsRight t version content = AreOfClub version t content

-- The named table is not right, and each table before it is.
pub record IsFirstIn (version : Version) (content : Content) (t : Table) : Type 0 where
  pub before : (u : Table) → order u < order t → IsRight u version content
  pub named : ¬ IsRight t version content

-- A table that is reported as damaged is the first wrong one, whatever content the database holds.
abbrev pub NamesFirstDamaged : Database → OpenFault → Type 0
NamesFirstDamaged db fault = (t : Table) → fault ≡ Damaged t → (version : Version) (content : Content)
    → HoldsRows version content db → IsFirstIn version content t
