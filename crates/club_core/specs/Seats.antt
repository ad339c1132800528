-- The transition that starts a game between two members.
use Rattle.std.specs.Prelude.{ℕ, ◌+◌, List, [], ◌∷◌, Option, Some, None, Bool, false, not, is_some, ◌&&◌, nat_le, ◌==◌}
use Rattle.std.specs.Prelude.{if◌then◌else◌}
use Rattle.std.specs.Str.{bytes_eq}
use Rattle.club_requests.specs.declared.refusals.Refusal.{Refusal}
use Rattle.club_requests.specs.declared.refusals.Refusal.TheVariants.{UnknownEvent, Conflict, BadValue, Full}
use Rattle.club_requests.specs.Limits.{most_games, is_name}
use Rattle.club_requests.specs.Outcome.{Reply, game_seated, Outcome, accepted, refused, first_refusal, unless}
use Rattle.club_requests.specs.Outcome.{unless_repeat}
use Rattle.club_core.specs.Members.{Member, find_id}
use Rattle.club_core.specs.Events.{Event, has_event_name}
use Rattle.club_core.specs.declared.seats.Pairing.{Pairing}
use Rattle.club_core.specs.declared.seats.KeyedGame.{KeyedGame}

-- the member has this name
abbrev pub has_member_name : List ℕ → Member → Bool
has_member_name name m = bytes_eq m.name name

-- the id was found and is this one
abbrev pub is_id : Option ℕ → ℕ → Bool
is_id None id = false
is_id (Some found) id = found == id

module _ (event : ℕ) (first second : Option ℕ) where
  -- the reply if the game under the key has the same event, and the same players on the same sides
  abbrev pub same_seats : Option KeyedGame → Option Reply
  same_seats None = None
  same_seats (Some old) =
      if event == old.pairing.event && is_id first old.pairing.first && is_id second old.pairing.second
      then Some (game_seated old.game)
      else None

-- both members were found and differ
abbrev pub are_distinct : Option ℕ → Option ℕ → Bool
are_distinct None second = false
are_distinct (Some first) None = false
are_distinct (Some first) (Some second) = not (first == second)

-- the refusals of a new game with their tests, in the order in which they apply
abbrev pub seat_tests : Option KeyedGame → ℕ → List ℕ → Option ℕ → Option ℕ → List (Bool × Refusal)
seat_tests under_key games key first second =
    (is_some under_key, Conflict)
    ∷ (not (is_name key && are_distinct first second), BadValue)
    ∷ (nat_le most_games games, Full)
    ∷ []

-- the first refusal of a new game that applies, if any
abbrev pub seat_refusal : Option KeyedGame → ℕ → List ℕ → Option ℕ → Option ℕ → Option Refusal
seat_refusal under_key games key first second = first_refusal (seat_tests under_key games key first second)

-- the pairing of two members that were found
abbrev pub pair : ℕ → Option ℕ → Option ℕ → ℕ → Outcome Pairing
pair event (Some first) (Some second) games =
    accepted (record { event = event; first = first; second = second }) (game_seated (games + 1))
pair event _ _ games = refused BadValue

-- the transition after the event, the members and the game under the key are looked up; `games` is the number of games
abbrev pub seat_found : Option ℕ → Option ℕ → Option ℕ → Option KeyedGame → ℕ → List ℕ → Outcome Pairing
seat_found None first second under_key games key = refused UnknownEvent
seat_found (Some event) first second under_key games key =
    unless_repeat (same_seats event first second under_key)
    (unless (seat_refusal under_key games key first second)
    (pair event first second games))

-- starts a game of an event between two members, all given by name
abbrev pub seat_step : List Member → List Event → Option KeyedGame → ℕ → List ℕ → List ℕ → List ℕ → List ℕ
    → Outcome Pairing
seat_step members events under_key games key event first second =
    seat_found
    (find_id (has_event_name event) events)
    (find_id (has_member_name first) members)
    (find_id (has_member_name second) members)
    under_key games key
