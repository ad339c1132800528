-- The club's state (members, events, games of two kinds, challenges) and its transition function.
use Rattle.std.specs.Prelude.{ℕ, zero, suc, ◌-◌, List, [], ◌∷◌, ◌++◌, length, map, count_by, Option, Some, None, Bool}
use Rattle.std.specs.Prelude.{true, false, not, ◌||◌, max, if◌then◌else◌, slice_get, slice_set}
use Rattle.std.specs.Str.{bytes_eq}
use Rattle.club_rules.specs.declared.names.GameKind.{GameKind}
use Rattle.club_rules.specs.declared.names.GameKind.TheVariants.{Draughts, Shogi}
use Rattle.club_core.specs.ClubRules.{ClubRules}
use Rattle.club_core.specs.declared.challenges.Challenge.{Challenge}
use Rattle.club_requests.specs.declared.requests.Caller.{Caller}
use Rattle.club_requests.specs.declared.requests.Caller.TheVariants.{Officer, Member}
use Rattle.club_requests.specs.declared.refusals.Refusal.TheVariants.{UnknownGame, UnknownKey}
use Rattle.club_requests.specs.declared.rulings.Ruling.{Ruling}
use Rattle.club_requests.specs.Outcome.{Outcome, games_swept, accepted, repeated, refused, map_outcome, by_officer}
use Rattle.club_requests.specs.Outcome.{by_member}
use Rattle.club_core.specs.Members as members
use Rattle.club_core.specs.Members.{find_id, member_step, present_key}
use Rattle.club_core.specs.Keys.{key_step}
use Rattle.club_core.specs.Events.{Terms, Event, has_event_name, event_kind, event_declares, event_step}
use Rattle.club_core.specs.Closings.{close_step}
use Rattle.club_core.specs.declared.seats.KeyedGame.{KeyedGame}
use Rattle.club_core.specs.declared.seats.Pairing.{Pairing}
use Rattle.club_core.specs.Seats.{has_member_name, seat_step}
use Rattle.club_core.specs.Challenges.{challenge_under, challenge_by, put_challenge, pairing_for, opening_step}
use Rattle.club_core.specs.Challenges.{withdrawal_step, answer_step}
use Rattle.club_core.specs.Rulings.{GivenRuling}
use Rattle.club_core.specs.Game.{Game}
use Rattle.club_rules.specs.GameRules.{GameRules}
use Rattle.club_rules.specs.Records.{GameRecords}
use Rattle.club_core.specs.Imports.{Import, Imported, imported, import_found}
use Rattle.club_core.specs.Step.{GameCommand, no_game_refusal, game_step, ruling_step, is_late, swept}

-- a game of one of the two kinds
pub data AnyGame (DM SM : Type 0) : Type 0 where
  draughts : Game DM → AnyGame DM SM
  shogi : Game SM → AnyGame DM SM

-- the ids of members, events and games are their indices, from 1
pub record State (DM SM : Type 0) : Type 0 where
  -- whether the club can record what only an arbiter does: later keys of members, closed events and rulings on games
  pub has_arbiter : Bool
  -- timestamp of the last accepted request
  pub last : ℕ
  pub members : List members.Member
  pub events : List Event
  pub games : List (AnyGame DM SM)
  -- in the order in which they were opened; no command depends on the order
  pub challenges : List Challenge

-- a new club without an arbiter: no members, events, games or challenges
abbrev pub opening_state : {DM SM : Type 0} → State DM SM
opening_state =
    record { has_arbiter = false; last = 0; members = []; events = []; games = []; challenges = [] }

-- a command to the club
pub data Command : Type 0 where
  add_member : (name key : List ℕ) → Command
  add_event : Event → Command
  seat : (key event first second : List ℕ) → Command
  import_record : Import → Command
  on_game : (id : ℕ) → GameCommand → Command
  sweep : Command
  open_challenge : (number : ℕ) → (event other : List ℕ) → (first : Bool) → Command
  withdraw_challenge : (number : ℕ) → Command
  answer_challenge : (challenger : List ℕ) → (number : ℕ) → (accept : Bool) → Command
  new_key : (name : List ℕ) → (number : ℕ) → (key : List ℕ) → Command
  close_event : (event : List ℕ) → Command
  rule : (id number : ℕ) → Ruling → Command

-- a command of which only a club with an arbiter can record what it does
abbrev pub needs_arbiter : Command → Bool
needs_arbiter (new_key name number key) = true
needs_arbiter (close_event event) = true
needs_arbiter (rule id number ruling) = true
needs_arbiter _ = false

-- caller of a command: the officer, or the holder of a member's key
pub data Who : Type 0 where
  officer : Who
  key_holder : List ℕ → Who

-- a command with its caller and its timestamp
pub record Request : Type 0 where
  pub who : Who
  pub command : Command
  pub moment : ℕ

-- the element with an id, which counts from 1
abbrev pub place : {A : Type 0} → List A → ℕ → Option A
place xs zero = None
place xs (suc n) = slice_get xs n

-- the element with an id that was looked up
abbrev pub at_found : {A : Type 0} → List A → Option ℕ → Option A
at_found xs None = None
at_found xs (Some id) = place xs id

-- the terms of an event that was looked up; zeros and no declarations if there is none
abbrev pub terms_at : Option Event → Terms
terms_at None = record { budget = 0; increment = 0; declares = false }
terms_at (Some e) = e.terms

-- the game of an event that was looked up; `Draughts` if there is none
abbrev pub kind_at : Option Event → GameKind
kind_at None = Draughts
kind_at (Some e) = e.game

-- the second key exists and is this one
abbrev pub is_key : List ℕ → Option (List ℕ) → Bool
is_key key None = false
is_key key (Some k) = bytes_eq k key

module _ {DM SM : Type 0} where
  -- the key of a game, if it has one
  abbrev pub key_of : AnyGame DM SM → Option (List ℕ)
  key_of (draughts g) = g.key
  key_of (shogi g) = g.key

  -- the event and the players of a game
  abbrev pub pairing_of : AnyGame DM SM → Pairing
  pairing_of (draughts g) = record { event = g.event; first = g.first; second = g.second }
  pairing_of (shogi g) = record { event = g.event; first = g.first; second = g.second }

  -- the rulings on a game
  abbrev pub rulings_of : AnyGame DM SM → List GivenRuling
  rulings_of (draughts g) = g.rulings
  rulings_of (shogi g) = g.rulings

  -- the game has this key
  abbrev pub has_key : List ℕ → AnyGame DM SM → Bool
  has_key key g = is_key key (key_of g)

  -- the game with its id, its event and its players, if it exists
  abbrev pub keyed_game : Option (AnyGame DM SM) → ℕ → Option KeyedGame
  keyed_game None id = None
  keyed_game (Some g) id = Some (record { game = id; pairing = pairing_of g })

  -- the game with an id that was looked up, with its event and its players, if it exists
  abbrev pub keyed_at : List (AnyGame DM SM) → Option ℕ → Option KeyedGame
  keyed_at games None = None
  keyed_at games (Some id) = keyed_game (place games id) id

  -- the game stored under a key, if it exists
  abbrev pub any_under : List (AnyGame DM SM) → List ℕ → Option (AnyGame DM SM)
  any_under games key = at_found games (find_id (has_key key) games)

  -- the game, if it is of this kind
  abbrev pub draughts_in : Option (AnyGame DM SM) → Option (Game DM)
  draughts_in None = None
  draughts_in (Some (draughts g)) = Some g
  draughts_in (Some (shogi g)) = None

  -- the game, if it is one of shogi
  abbrev pub shogi_in : Option (AnyGame DM SM) → Option (Game SM)
  shogi_in None = None
  shogi_in (Some (draughts g)) = None
  shogi_in (Some (shogi g)) = Some g

  -- the game stored under a key, with its id
  abbrev pub game_under : List (AnyGame DM SM) → List ℕ → Option KeyedGame
  game_under games key = keyed_at games (find_id (has_key key) games)

-- a new game without moves
abbrev pub seated : {M : Type 0} → Option (List ℕ) → Pairing → ℕ → Game M
seated key pairing start =
    record {
      key = key;
      event = pairing.event;
      first = pairing.first;
      second = pairing.second;
      start = start;
      entries = [];
      offer = None;
      outside = None;
      rulings = [];
    }

-- a new game of this kind without moves
abbrev pub seated_as : {DM SM : Type 0} → GameKind → Option (List ℕ) → Pairing → ℕ → AnyGame DM SM
seated_as Draughts key pairing start = draughts (seated key pairing start)
seated_as Shogi key pairing start = shogi (seated key pairing start)

-- the member with an id that was looked up by key
abbrev pub caller_found : Option ℕ → Option Caller
caller_found None = None
caller_found (Some id) = Some (Member id)

-- the member has this key now
abbrev pub has_member_key : List ℕ → members.Member → Bool
has_member_key key m = bytes_eq (present_key m) key

-- the caller of a command: the officer, or the member with the key, if it exists
abbrev pub caller_of : List members.Member → Who → Option Caller
caller_of all officer = Some Officer
caller_of all (key_holder key) = caller_found (find_id (has_member_key key) all)

-- the state after an outcome: the new one if accepted, otherwise the old one
abbrev pub state_after : {S : Type 0} → S → Outcome S → S
state_after s (accepted new reply) = new
state_after s (repeated reply) = s
state_after s (refused refusal) = s

-- the command is accepted, and is neither a repetition nor refused
abbrev pub is_accepted : {S : Type 0} → Outcome S → Bool
is_accepted (accepted new reply) = true
is_accepted (repeated reply) = false
is_accepted (refused refusal) = false

-- the club can record what the command does
abbrev pub takes : {DM SM : Type 0} → State DM SM → Command → Bool
takes s command = not (needs_arbiter command) || s.has_arbiter

module _ {DM SM : Type 0} (s : State DM SM) (moment : ℕ) where
  -- the state with these members, after a command at this timestamp
  abbrev pub with_members : List members.Member → State DM SM
  with_members all = record s { last = moment; members = all }

  -- the state with these events, after a command at this timestamp
  abbrev pub with_events : List Event → State DM SM
  with_events all = record s { last = moment; events = all }

  -- the state with a new game under this key, of the event's kind
  abbrev pub with_new_game : List ℕ → Pairing → State DM SM
  with_new_game key pairing =
      record s {
        last = moment;
        games = s.games ++ seated_as (kind_at (place s.events pairing.event)) (Some key) pairing moment ∷ [];
      }

  -- the state with one more game
  abbrev pub with_imported : AnyGame DM SM → State DM SM
  with_imported game = record s { last = moment; games = s.games ++ game ∷ [] }

  -- the state with the game of this id replaced
  abbrev pub with_game : ℕ → AnyGame DM SM → State DM SM
  with_game id game = record s { last = moment; games = slice_set s.games (id - 1) game }

  -- the state with a challenge inserted or replaced
  abbrev pub with_challenge : Challenge → State DM SM
  with_challenge c = record s { last = moment; challenges = put_challenge s.challenges c }

  -- the game that an accepted challenge starts; it has no key
  abbrev pub challenge_game : Challenge → AnyGame DM SM
  challenge_game c = seated_as (kind_at (place s.events c.event)) None (pairing_for c) moment

-- stores the answered challenge, and the game if it was accepted
abbrev pub with_answer : {DM SM : Type 0} → State DM SM → ℕ → Bool → Challenge → State DM SM
with_answer s moment false c = with_challenge s moment c
with_answer s moment true c = with_challenge (with_imported s moment (challenge_game s moment c)) moment c

-- the transition of an import, with its event, its players and the game under its key looked up
abbrev pub import_looked_up : {DM SM P M E T : Type 0} →
    GameRules P M E T → GameRecords M → State DM SM → Import → Option (Game M) → Outcome (Imported M)
import_looked_up rules records s given old =
    import_found rules records given (event_declares s.events given.event)
    (find_id (has_event_name given.event) s.events)
    (find_id (has_member_name given.first) s.members)
    (find_id (has_member_name given.second) s.members)
    (game_under s.games given.key)
    old
    (length s.games)

module _ {DP DM DE DT SP SM SE ST : Type 0} (rules : ClubRules DP DM DE DT SP SM SE ST) where
  -- a command on the game with this id, which was looked up
  abbrev pub step_game : State DM SM → ℕ → ℕ → Caller → GameCommand → Option (AnyGame DM SM) → Outcome (State DM SM)
  step_game s moment id who command None = refused (no_game_refusal who command)
  step_game s moment id who command (Some (draughts g)) =
      map_outcome (λ new. with_game s moment id (draughts new))
      (game_step rules.draughts (terms_at (place s.events g.event)) g moment who command)
  step_game s moment id who command (Some (shogi g)) =
      map_outcome (λ new. with_game s moment id (shogi new))
      (game_step rules.shogi (terms_at (place s.events g.event)) g moment who command)

  -- a ruling on the game with this id, which was looked up
  abbrev pub step_ruling : State DM SM → ℕ → ℕ → ℕ → Ruling → Option (AnyGame DM SM) → Outcome (State DM SM)
  step_ruling s moment id number ruling None = refused UnknownGame
  step_ruling s moment id number ruling (Some (draughts g)) =
      map_outcome (λ new. with_game s moment id (draughts new)) (ruling_step rules.draughts g number ruling moment)
  step_ruling s moment id number ruling (Some (shogi g)) =
      map_outcome (λ new. with_game s moment id (shogi new)) (ruling_step rules.shogi g number ruling moment)

  -- import into an event of this kind; the names and the game under the key are looked up
  abbrev pub import_as : State DM SM → ℕ → Import → GameKind → Outcome (State DM SM)
  import_as s moment given Draughts =
      map_outcome
      (λ i. with_imported s moment (draughts (imported rules.draughts (Some given.key) i.pairing moment i.recorded)))
      (import_looked_up rules.draughts rules.draughts_records s given (draughts_in (any_under s.games given.key)))
  import_as s moment given Shogi =
      map_outcome
      (λ i. with_imported s moment (shogi (imported rules.shogi (Some given.key) i.pairing moment i.recorded)))
      (import_looked_up rules.shogi rules.shogi_records s given (shogi_in (any_under s.games given.key)))

  -- the game is running and its side to move has exceeded the time limit
  abbrev pub is_late_any : State DM SM → ℕ → AnyGame DM SM → Bool
  is_late_any s moment (draughts g) = is_late rules.draughts (terms_at (place s.events g.event)) g moment
  is_late_any s moment (shogi g) = is_late rules.shogi (terms_at (place s.events g.event)) g moment

  -- the game after a sweep
  abbrev pub swept_any : State DM SM → ℕ → AnyGame DM SM → AnyGame DM SM
  swept_any s moment (draughts g) = draughts (swept rules.draughts (terms_at (place s.events g.event)) g moment)
  swept_any s moment (shogi g) = shogi (swept rules.shogi (terms_at (place s.events g.event)) g moment)

  -- ends every running game whose side to move has exceeded the time limit
  abbrev pub with_swept : State DM SM → ℕ → State DM SM
  with_swept s moment = record s { last = moment; games = map (swept_any s moment) s.games }

  -- ends every running game whose side to move has exceeded the time limit, and counts these games
  abbrev pub step_sweep : State DM SM → ℕ → Outcome (State DM SM)
  step_sweep s moment = accepted (with_swept s moment) (games_swept (count_by (is_late_any s moment) s.games))

  -- a command of a caller, at the effective timestamp
  abbrev pub step_command : State DM SM → ℕ → Caller → Command → Outcome (State DM SM)
  step_command s moment who (add_member name key) =
      by_officer who (map_outcome (with_members s moment) (member_step s.members name key))
  step_command s moment who (add_event event) =
      by_officer who (map_outcome (with_events s moment) (event_step s.events event))
  step_command s moment who (seat key event first second) =
      by_officer who
      (map_outcome (with_new_game s moment key)
      (seat_step s.members s.events (game_under s.games key) (length s.games) key event first second))
  step_command s moment who (import_record given) =
      by_officer who (import_as s moment given (event_kind s.events given.event))
  step_command s moment who (on_game id command) = step_game s moment id who command (place s.games id)
  step_command s moment who sweep = by_officer who (step_sweep s moment)
  step_command s moment who (open_challenge number event other first) =
      by_member who
      (λ caller. map_outcome (with_challenge s moment)
      (opening_step s.members s.events (challenge_under s.challenges caller number) caller number event other first))
  step_command s moment who (withdraw_challenge number) =
      by_member who
      (λ caller. map_outcome (with_challenge s moment) (withdrawal_step (challenge_under s.challenges caller number)))
  step_command s moment who (answer_challenge challenger number accept) =
      by_member who
      (λ caller. map_outcome (with_answer s moment accept)
      (answer_step s.events
      (challenge_by s.challenges (find_id (has_member_name challenger) s.members) number)
      (length s.games) caller accept))
  step_command s moment who (new_key name number key) =
      by_officer who (map_outcome (with_members s moment) (key_step s.members name number key))
  step_command s moment who (close_event event) =
      by_officer who (map_outcome (with_events s moment) (close_step s.events event moment))
  step_command s moment who (rule id number ruling) =
      by_officer who (step_ruling s moment id number ruling (place s.games id))

  -- a command of a caller that was looked up by key; refused if there is none
  abbrev pub step_by : State DM SM → ℕ → Option Caller → Command → Outcome (State DM SM)
  step_by s moment None command = refused UnknownKey
  step_by s moment (Some who) command = step_command s moment who command

  -- the effective timestamp is the later of the request's and the last accepted request's
  abbrev pub step : State DM SM → Request → Outcome (State DM SM)
  step s r = step_by s (max r.moment s.last) (caller_of s.members r.who) r.command

  -- the state after a request
  abbrev pub next : State DM SM → Request → State DM SM
  next s r = state_after s (step s r)

  -- the state after requests, one after another
  abbrev pub fold : State DM SM → List Request → State DM SM
  fold s [] = s
  fold s (r ∷ rs) = fold (next s r) rs

  -- the outcomes of requests, one after another
  abbrev pub outcomes : State DM SM → List Request → List (Outcome (State DM SM))
  outcomes s [] = []
  outcomes s (r ∷ rs) = step s r ∷ outcomes (next s r) rs

  -- the requests whose outcome is accepted
  abbrev pub accepted_of : State DM SM → List Request → List Request
  accepted_of s [] = []
  accepted_of s (r ∷ rs) = if is_accepted (step s r) then r ∷ accepted_of (next s r) rs else accepted_of (next s r) rs
