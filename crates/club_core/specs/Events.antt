-- Events, and the transition that adds one.
use Rattle.std.specs.Prelude.{ℕ, zero, suc, ◌+◌, List, [], ◌∷◌, ◌++◌, length, Option, None, Some, is_some, Bool, true}
use Rattle.std.specs.Prelude.{false, not, ◌&&◌, nat_le, ◌==◌, if◌then◌else◌, slice_get}
use Rattle.std.specs.Str.{bytes_eq}
use Rattle.std.specs.Option.{option_map}
use Rattle.std.specs.List.{list_any}
use Rattle.club_rules.specs.declared.names.GameKind.{GameKind}
use Rattle.club_rules.specs.declared.names.GameKind.TheVariants.{Draughts, Shogi}
use Rattle.club_requests.specs.declared.refusals.Refusal.{Refusal}
use Rattle.club_requests.specs.declared.refusals.Refusal.TheVariants.{NameTaken, BadValue, Full}
use Rattle.club_requests.specs.Limits.{most_events, is_name, is_budget, is_increment}
use Rattle.club_requests.specs.Outcome.{Reply, event_added, Outcome, accepted, first_refusal, unless, unless_repeat}
use Rattle.club_core.specs.Members.{find_id}

-- the terms of an event: budget and increment in seconds, and whether players may declare a win
pub record Terms : Type 0 where
  pub budget : ℕ
  pub increment : ℕ
  pub declares : Bool

-- an event: games of one kind under the same terms, and the timestamp at which it was closed to challenges, if it was
pub record Event : Type 0 where
  pub name : List ℕ
  pub game : GameKind
  pub terms : Terms
  pub closed : Option ℕ

-- an event that was looked up exists and is closed to challenges
abbrev pub has_closed : Option Event → Bool
has_closed None = false
has_closed (Some e) = is_some e.closed

-- the event with this id, which counts from 1, is closed to challenges
abbrev pub is_closed : List Event → ℕ → Bool
is_closed events zero = false
is_closed events (suc n) = has_closed (slice_get events n)

-- equality of kinds of games
abbrev pub same_game : GameKind → GameKind → Bool
same_game Draughts Draughts = true
same_game Shogi Shogi = true
same_game Draughts Shogi = false
same_game Shogi Draughts = false

-- the event has this name
abbrev pub has_event_name : List ℕ → Event → Bool
has_event_name name e = bytes_eq e.name name

-- the event has the name, the game, the budget and the increment of the given one
abbrev pub is_event : Event → Event → Bool
is_event given e =
    bytes_eq e.name given.name && same_game e.game given.game && e.terms.budget == given.terms.budget &&
    e.terms.increment == given.terms.increment

-- the event's name, budget and increment are within the club's limits
abbrev pub has_good_values : Event → Bool
has_good_values e = is_name e.name && is_budget e.terms.budget && is_increment e.terms.increment

-- the game of the event with this name; `Draughts` if there is none
abbrev pub event_kind : List Event → List ℕ → GameKind
event_kind [] name = Draughts
event_kind (e ∷ es) name = if has_event_name name e then e.game else event_kind es name

-- whether the event with this name exists and allows declarations
abbrev pub event_declares : List Event → List ℕ → Bool
event_declares es name = list_any (λ e. has_event_name name e && e.terms.declares) es

-- an event as it is added: it allows declarations, whatever its game, and is open to challenges
abbrev pub declaring : Event → Event
declaring given = record given { terms = record given.terms { declares = true }; closed = None }

module _ (events : List Event) (given : Event) where
  -- the reply if the same event already exists
  abbrev pub same_event : Option Reply
  same_event = option_map event_added (find_id (is_event given) events)

  -- the refusals of a new event with their tests, in the order in which they apply
  abbrev pub event_tests : List (Bool × Refusal)
  event_tests =
      (list_any (has_event_name given.name) events, NameTaken)
      ∷ (not (has_good_values given), BadValue)
      ∷ (nat_le most_events (length events), Full)
      ∷ []

  -- the first refusal of a new event that applies, if any
  abbrev pub event_refusal : Option Refusal
  event_refusal = first_refusal event_tests

  -- the transition that adds an event
  abbrev pub event_step : Outcome (List Event)
  event_step =
      unless_repeat same_event
      (unless event_refusal
      (accepted (events ++ declaring given ∷ []) (event_added (length events + 1))))
