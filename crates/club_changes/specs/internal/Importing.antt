-- The effect of an import on the club's tables. No promise of the program rests on these definitions.
use Rattle.std.specs.Prelude.{◌≡◌, ◌≢◌, ◌+◌, ℕ, List, [], ◌∷◌, length, Option, Some, None}
use Rattle.sqlite.specs.Order.{Row}
use Rattle.squares.specs.declared.sides.Score.{Score}
use Rattle.club_rules.specs.declared.names.GameKind.{GameKind}
use Rattle.club_rules.specs.GameRules.{GameRules}
use Rattle.club_rules.specs.Records.{GameRecords}
use Rattle.club_requests.specs.declared.requests.Caller.{Caller}
use Rattle.club_core.specs.Answer.{outcome_of, answered}
use Rattle.club_core.specs.internal.Answer.{members_of, events_of}
use Rattle.club_core.specs.Events.{Terms, Event, has_event_name, event_declares}
use Rattle.club_core.specs.declared.rows.GameEnd.{GameEnd}
use Rattle.club_core.specs.Game.{end_of, Game, result_of}
use Rattle.club_core.specs.Imports.{Import, Imported, imported, import_found}
use Rattle.club_core.specs.Members.{find_id}
use Rattle.club_requests.specs.Outcome.{Outcome, accepted, repeated, refused, by_officer}
use Rattle.club_core.specs.Seats.{has_member_name}
use Rattle.club_core.specs.State.{place, terms_at, any_under, game_under, keyed_game}
use Rattle.club_rows.specs.Club.{ClubGame, ClubState}
use Rattle.club_rows.specs.internal.Replay.{terms_given}
use Rattle.club_rows.specs.Seen.{seen_rows}
use Rattle.club_rows.specs.Tables.{number, game_row, move_rows}
use Rattle.store_tables.specs.Contents.{Content}
use Rattle.store_tables.specs.internal.Contents.{AreThose}
use Rattle.store_tables.specs.declared.rows.Changes.{Changes}
use Rattle.store_tables.specs.Names.{tree_of}
use Rattle.store_tables.specs.declared.names.Table.TheVariants.{Moves}
use Rattle.club_changes.specs.declared.decided.CommandEffect.{CommandEffect}
use Rattle.club_changes.specs.declared.stored.StoredGame.{StoredGame}
use Rattle.club_changes.specs.declared.imports.ImportContext.{ImportContext}
use Rattle.club_changes.specs.Steps.{HaveSame, IsRecordOf}
use Rattle.club_changes.specs.internal.Steps.{Puts, PutsScores, no_rows}
use Rattle.club_changes.specs.internal.Stored.{IsStoredGame}

-- ---- the state that an import needs

-- the rows of moves with this id are this game's
abbrev pub TellsLine : {P M E T : Type 0} → GameRules P M E T → Terms → ℕ → Game M → Content → Type 0
TellsLine laws terms id game content =
    (found : List Row) → AreThose (0 ∷ []) (number id ∷ []) (content (tree_of Moves)) found
    → HaveSame found (move_rows laws terms id game)

-- the stored game with this key
pub record IsUnderKey (s : ClubState) (key : List ℕ) (stored : StoredGame) : Type 0 where
  pub id : ℕ
  pub game : ClubGame
  pub here : place s.games id ≡ Some game
  pub under : any_under s.games key ≡ Some game
  pub keyed : game_under s.games key ≡ keyed_game (Some game) id
  pub stored_is : IsStoredGame s id game stored

-- the stored game with this key, if there is one
abbrev pub IsUnder : ClubState → List ℕ → Option StoredGame → Type 0
IsUnder s key None = (any_under s.games key ≡ None) × (game_under s.games key ≡ None)
IsUnder s key (Some stored) = IsUnderKey s key stored

-- the state that an import under this key needs, taken from the club
pub record IsKnown (s : ClubState) (key : List ℕ) (known : ImportContext) : Type 0 where
  pub members_are : members_of known.members.items ≡ s.members
  pub events_are : events_of known.events.items ≡ s.events
  pub keyed_is : known.keyed ≡ game_under s.games key
  pub under_is : IsUnder s key known.under
  pub games_are : known.games ≡ length s.games

-- the stored game, if it is of this kind
abbrev pub IsOfKind : {P M E T : Type 0} → GameRules P M E T → GameKind → Content → Option (Game M) → Option StoredGame
    → Type 0
IsOfKind laws kind content None None = Unit {0}
IsOfKind laws kind content (Some game) None = ⊥
IsOfKind laws kind content None (Some stored) = stored.kind ≢ kind
IsOfKind laws kind content (Some game) (Some stored) =
    (stored.kind ≡ kind)
    × TellsLine laws (terms_given stored.terms) stored.id game content
    × IsRecordOf laws (terms_given stored.terms) stored.id stored.row game

-- ---- the effect

-- the outcome of an import, from the known state and the game under the key if it is of the event's kind
abbrev pub imported_by : {P M E T : Type 0} → GameRules P M E T → GameRecords M → ImportContext → Caller → Import
    → Option (Game M) → Outcome (Imported M)
imported_by laws records known caller given old =
    by_officer caller
    (import_found laws records given (event_declares (events_of known.events.items) given.event)
    (find_id (has_event_name given.event) (events_of known.events.items))
    (find_id (has_member_name given.first) (members_of known.members.items))
    (find_id (has_member_name given.second) (members_of known.members.items))
    known.keyed
    old
    known.games)

-- The rows to upsert for an added, ended game: its own, its moves, its positions, and its players' scores from those in
-- the table.
pub record PutsNewGame {P M E T : Type 0} (laws : GameRules P M E T) (terms : Terms) (id moment : ℕ) (table : List Row)
    (new : Game M) (changes : Changes) : Type 0 where
  pub end : GameEnd E
  pub ended : end_of laws new ≡ Some end
  pub score : Score
  pub result : result_of laws new ≡ Some score
  pub scores : List Row
  pub scores_are : PutsScores table new.event new.first new.second (Some score) scores
  pub puts : Puts changes moment
      (record no_rows {
        games = game_row laws terms id new ∷ [];
        moves = move_rows laws terms id new;
        seen = seen_rows laws id new;
        scores = scores;
      })

-- the rows of the next game if the import is accepted, else none
abbrev pub PutsImport : {P M E T : Type 0} → GameRules P M E T → List Event → (key : List ℕ) → (games moment : ℕ)
    → List Row → Outcome (Imported M) → Option Changes → Type 0
PutsImport laws events key games moment table (accepted i reply) (Some changes) =
    PutsNewGame laws (terms_at (place events i.pairing.event)) (games + 1) moment table
    (imported laws (Some key) i.pairing moment i.recorded) changes
PutsImport laws events key games moment table (repeated reply) None = Unit {0}
PutsImport laws events key games moment table (refused refusal) None = Unit {0}
PutsImport laws events key games moment table (accepted i reply) None = ⊥
PutsImport laws events key games moment table (repeated reply) (Some changes) = ⊥
PutsImport laws events key games moment table (refused refusal) (Some changes) = ⊥

-- The effect has the outcome of the import, and its rows to upsert over this table of scores.
pub record IsImportedIn {P M E T : Type 0} (laws : GameRules P M E T) (events : List Event) (key : List ℕ)
    (games moment : ℕ) (table : List Row) (after : Outcome (Imported M)) (decided : CommandEffect) : Type 0 where
  pub answer : outcome_of decided.outcome ≡ answered after
  pub puts : PutsImport laws events key games moment table after decided.changes
