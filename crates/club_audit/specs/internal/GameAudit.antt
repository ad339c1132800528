-- When all rows of one game are those of a legal game of its event, and the first wrong table. No promise of the
-- program rests on these definitions.
use Rattle.std.specs.Prelude.{◌≡◌, ◌+◌, ◌<◌, ◌≤◌, ℕ, pos, List, Option, Some, Bool}
use Rattle.club_rules.specs.declared.names.GameKind.{GameKind}
use Rattle.club_rules.specs.declared.names.GameKind.TheVariants.{Draughts, Shogi}
use Rattle.club_core.specs.Events.{Terms}
use Rattle.store_tables.specs.declared.rows.EventRow.{EventRow}
use Rattle.store_tables.specs.declared.rows.GameTableRow.{GameTableRow}
use Rattle.store_tables.specs.declared.rows.MoveRow.{MoveRow}
use Rattle.store_tables.specs.declared.rows.RulingRow.{RulingRow}
use Rattle.store_tables.specs.declared.rows.SeenRow.{SeenRow}
use Rattle.store_tables.specs.declared.rows.Rows.{Rows}
use Rattle.store_tables.specs.declared.names.Table.{Table}
use Rattle.store_tables.specs.declared.names.Table.TheVariants.{Events, Moves, Games, Seen, Meta, Rulings}
use Rattle.club_requests.specs.Limits.{last_moment, most_games}
use Rattle.club_audit.specs.Audit.{GivesTerms}
use Rattle.club_audit.specs.internal.Audit.{AreAllOf, IsGameAt, NamesEvent, NamesPlayers}
use Rattle.club_audit.specs.Audit.{terms_told}
use Rattle.club_audit.specs.internal.Audit.{NamesRule, until}
use Rattle.club_rows.specs.Club.{both_games, ClubGame, ClubState}
use Rattle.club_rows.specs.Tables.{kind_number}
use Rattle.club_audit.specs.GameAudit.{HaveAll, IsRightOf}

-- the same for the rules of the kind
abbrev pub HaveAllOf : GameKind → Terms → ℕ → GameTableRow → List MoveRow → List RulingRow → List SeenRow → Type 0
HaveAllOf Draughts terms last row moves rulings seen = HaveAll both_games.draughts terms last row moves rulings seen
HaveAllOf Shogi terms last row moves rulings seen = HaveAll both_games.shogi terms last row moves rulings seen

-- these are all rows of some legal game with the kind and terms of the event's row, with timestamps up to `last`
pub record AreOfEvent (event : EventRow) (declares : Bool) (last : ℕ)
    (row : GameTableRow) (moves : List MoveRow) (rulings : List RulingRow) (seen : List SeenRow) : Type 0 where
  pub kind : GameKind
  pub kind_is : event.game ≡ pos (kind_number kind)
  pub budget : ℕ
  pub increment : ℕ
  pub terms : GivesTerms event budget increment
  pub all : HaveAllOf kind (terms_told budget increment declares) last row moves rulings seen

-- the event's row has a kind and terms
pub record GivesRules (event : EventRow) : Type 0 where
  pub kind : GameKind
  pub kind_is : event.game ≡ pos (kind_number kind)
  pub budget : ℕ
  pub increment : ℕ
  pub terms : GivesTerms event budget increment

-- the same for the kind and terms of the event's row
abbrev pub IsRightBy : EventRow → Bool → Option ℕ → GameTableRow → List MoveRow → List RulingRow → List SeenRow
    → Table → Type 0
IsRightBy event declares last row moves rulings seen t =
    (kind : GameKind) (budget increment : ℕ) → event.game ≡ pos (kind_number kind) → GivesTerms event budget increment
    → IsRightOf kind (terms_told budget increment declares) last row moves rulings seen t

-- and the event's row has a kind and terms
abbrev pub IsRightInEvent : EventRow → Bool → Option ℕ → GameTableRow → List MoveRow → List RulingRow → List SeenRow
    → Table → Type 0
IsRightInEvent event declares last row moves rulings seen Events = GivesRules event
IsRightInEvent event declares last row moves rulings seen t = IsRightBy event declares last row moves rulings seen t

-- The same for the game at this place (from 0) of a club with these members and events. The moves and rulings of a
-- game without a valid event are not checked.
abbrev pub IsRightAt : ClubState → Rows → ℕ → GameTableRow → List MoveRow → List RulingRow → List SeenRow
    → Option ℕ → Table → Type 0
IsRightAt s rows place row moves rulings seen last Moves =
    (id : ℕ) (event : EventRow) (declares : Bool) → NamesEvent rows row id event → NamesRule rows row id declares
    → IsRightBy event declares last row moves rulings seen Moves
IsRightAt s rows place row moves rulings seen last Rulings =
    (id : ℕ) (event : EventRow) (declares : Bool) → NamesEvent rows row id event → NamesRule rows row id declares
    → IsRightBy event declares last row moves rulings seen Rulings
IsRightAt s rows place row moves rulings seen last Games =
    (place < most_games) × (g : ClubGame) × IsGameAt (until last_moment s) (place + 1) row moves rulings g
IsRightAt s rows place row moves rulings seen last Seen =
    (g : ClubGame) × AreAllOf (until last_moment s) (place + 1) row moves rulings seen g
IsRightAt s rows place row moves rulings seen last Meta =
    (n : ℕ) → last ≡ Some n → n ≤ last_moment
    → (g : ClubGame) × AreAllOf (until n s) (place + 1) row moves rulings seen g
IsRightAt s rows place row moves rulings seen last t = Unit {0}

-- the game's id fits its place (from 0), the place is within the limit, and its players are members
pub record StandsAt (rows : Rows) (place : ℕ) (game : GameTableRow) : Type 0 where
  pub low : place < most_games
  pub id : game.id ≡ pos (place + 1)
  pub first : ℕ
  pub second : ℕ
  pub players : NamesPlayers rows game first second
