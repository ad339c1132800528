-- The history of a club: its sessions and upgrades in order, each complete or ended by a crash or a fault.
use Rattle.std.specs.Prelude.{◌≡◌, ◌⊎◌, ◌≤◌, ◌+◌, ℕ, Bool, true, false, if◌then◌else◌, List, [], ◌∷◌, length, map, take}
use Rattle.std.specs.Prelude.{is_none}
use Rattle.std.specs.List.{count_by}
use Rattle.sqlite.specs.Tree.{Trees}
use Rattle.sqlite.specs.State.{State}
use Rattle.store_tables.specs.Club.{Leaves}
use Rattle.store_tables.specs.Sql.{Has}
use Rattle.store_tables.specs.Migrations.{HoldsInVersion, LeavesInVersion}
use Rattle.store_tables.specs.Over.{LeavesBeside, Neighbours, alone}
use Rattle.store_tables.specs.Tables.{schema_number}
use Rattle.store_tables.specs.declared.names.Version.{Version}
use Rattle.club_requests.specs.declared.requests.Request as given_request
use Rattle.club_requests.specs.declared.answers.Outcome as given_outcome
use Rattle.club_core.specs.Answer.{outcome_of, request_of}
use Rattle.club_core.specs.State.{Request, opening_state, is_accepted}
use Rattle.club_rows.specs.Club.{ClubState, IsClub, tables}
use Rattle.club_rows.specs.FirstSchema.{IsClubOf, tables_at, upgraded_to}
use Rattle.club_rows.specs.Tables.{version_of}
use Rattle.schema_match.specs.Shapes.{is_of_club}
use Rattle.store.specs.declared.club.run.Run.{Run}
use Rattle.store.specs.Runs.{club_fold}
use Rattle.store.specs.SchemaRuns.{accepted_in, fold_in}

-- The requests of one session in order, and how many were answered as accepted.
pub record Session : Type 0 where
  pub requests : List Request
  -- the number of requests that were answered as accepted
  pub returned : ℕ
  -- neither a crash nor a fault ended it
  pub is_whole : Bool

-- k accepted requests took effect: those that were answered, or one more if the session was cut off
pub record TakesEffect (session : Session) (k : ℕ) : Type 0 where
  pub least : session.returned ≤ k
  pub most : k ≤ session.returned + 1
  pub whole : session.is_whole ≡ true → k ≡ session.returned

-- the state after the first k accepted requests, which the program of this schema executed
pub record SessionReaches (version : Version) (before : ClubState) (session : Session)
    (after : ClubState) : Type 0 where
  pub k : ℕ
  pub effect : TakesEffect session k
  pub is : after ≡ fold_in version before (take k (accepted_in version before session.requests))

-- A step of a history: a session, or an upgrade to a schema, which was answered or cut off.
pub data HistoryStep : Type 0 where
  served : Session → HistoryStep
  upgraded : (to : Version) (answered : Bool) → HistoryStep

-- the schema version and the state of a club
pub record Place : Type 0 where
  pub version : Version
  pub state : ClubState

-- the place after an upgrade to this schema: nothing else changes, but that schema 3 gives the club an arbiter
abbrev pub place_in : Version → Place → Place
place_in to before = record { version = to; state = upgraded_to to before.state }

-- An upgrade ends in its schema, which is no earlier one; if it was cut off, perhaps in the one before.
pub record UpgradeLeads (before : Place) (to : Version) (answered : Bool) (after : Place) : Type 0 where
  pub later : schema_number before.version ≤ schema_number to
  pub place : (after ≡ place_in to before) ⊎ ((answered ≡ false) × (after ≡ before))

-- a session keeps the schema
abbrev pub StepLeadsTo : Place → HistoryStep → Place → Type 0
StepLeadsTo before (served session) after =
    (after.version ≡ before.version) × SessionReaches before.version before.state session after.state
StepLeadsTo before (upgraded to answered) after = UpgradeLeads before to answered after

-- the steps lead from one place to another
abbrev pub HistoryLeadsTo : Place → List HistoryStep → Place → Type 0
HistoryLeadsTo before [] after = after ≡ before
HistoryLeadsTo before (chapter ∷ chapters) after = (between : Place) × StepLeadsTo before chapter between
    × HistoryLeadsTo between chapters after

-- an empty club of this version
abbrev pub opens_as : Version → Place
opens_as version = record { version = version; state = upgraded_to version opening_state }

-- The database has the tables of this state, alone or beside foreign tables, in a schema equivalent to a club's.
pub record HasState (s : ClubState) (trees : Trees) : Type 0 where
  pub them : Neighbours
  pub version : them.version ≡ version_of s
  pub leaves : LeavesBeside them (tables s) trees
  pub shape : is_of_club (version_of s) them.schema ≡ true

-- From an empty club in the schema `from` the steps lead to a legal state in this schema, whose tables a later opening
-- finds in the database, beside these foreign tables. `them` is the database after a migration, or this one.
pub record IsReachable (from version : Version) (them : Neighbours) (chapters : List HistoryStep) (trees : Trees)
    : Type 0 where
  pub after : ClubState
  pub legal : IsClubOf version after
  pub leads : HistoryLeadsTo (opens_as from) chapters (record { version = version; state = after })
  pub leaves : LeavesInVersion version them (tables_at version after) trees

-- the steps lead to the tables of the database in one of these schemas
pub record IsReachableIn (from : Version) (versions : List Version) (them : Neighbours) (chapters : List HistoryStep)
    (trees : Trees) : Type 0 where
  pub version : Version
  pub among : Has versions version
  pub reached : IsReachable from version them chapters trees

-- the same for an open connection with tables in this schema, and for whatever a crash leaves of it
pub record IsHistory (from version : Version) (them : Neighbours) (chapters : List HistoryStep) (now : State) : Type 0
  where
    pub after : ClubState
    pub legal : IsClubOf version after
    pub leads : HistoryLeadsTo (opens_as from) chapters (record { version = version; state = after })
    pub exactly : HoldsInVersion version them (tables_at version after) now

-- whether the outcome is that the request was accepted
abbrev pub is_taken : given_outcome.Outcome → Bool
is_taken outcome = is_accepted (outcome_of outcome)

-- A run as a session: its requests include the one that failed, if any.
abbrev pub run_session : List given_request.Request → Run → Session
run_session requests run = record {
  requests = map request_of (take (length run.outcomes.items + 1) requests);
  returned = count_by is_taken run.outcomes.items;
  is_whole = is_none run.fault;
}

-- a run as a step of a history
abbrev pub session_of : List given_request.Request → Run → HistoryStep
session_of requests run = served (run_session requests run)

-- a session of one request with this outcome
abbrev pub answered_session : Request → given_outcome.Outcome → HistoryStep
answered_session request outcome =
    served (record { requests = request ∷ []; returned = if is_taken outcome then 1 else 0; is_whole = true })

-- a session of one request that was cut off by a fault
abbrev pub cut_session : Request → HistoryStep
cut_session request = served (record { requests = request ∷ []; returned = 0; is_whole = false })

-- the state after `count` requests is legal, and the database has its tables beside these foreign tables
pub record IsAfter (them : Neighbours) (before : ClubState) (requests : List given_request.Request) (count : ℕ)
    (trees : Trees) : Type 0 where
  pub legal : IsClub (club_fold before (map request_of (take count requests)))
  pub leaves : LeavesBeside them (tables (club_fold before (map request_of (take count requests)))) trees

-- the empty history of a club that was created in schema 2 or in schema 3 leads to the tables of an empty club
abbrev pub BeginsAtOpening : Version → Type 0
BeginsAtOpening version =
    (trees : Trees) → Leaves version (tables (upgraded_to version opening_state)) trees
    → IsReachable version version (alone version) [] trees
