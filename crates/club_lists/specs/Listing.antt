-- The filter of a list of games, and the refusal of a list.
use Rattle.std.specs.Prelude.{ℕ, Bool, true, false, not, ◌&&◌, ◌||◌, List, [], ◌∷◌, Option, Some, None, string_bytes}
use Rattle.std.specs.Prelude.{filter}
use Rattle.std.specs.Option.{option_map}
use Rattle.std.specs.Str.{bytes_eq}
use Rattle.std.specs.List.{list_any}
use Rattle.club_requests.specs.declared.refusals.Refusal.{Refusal}
use Rattle.club_requests.specs.declared.refusals.Refusal.TheVariants.{BadValue, UnknownEvent}
use Rattle.club_requests.specs.Outcome.{first_refusal}
use Rattle.club_core.specs.Events.{Event, has_event_name}
use Rattle.club_core.specs.Members.{Member}
use Rattle.club_core.specs.Seats.{has_member_name}
use Rattle.club_core.specs.State.{place}
use Rattle.club_requests.specs.declared.questions.Listing.{Listing}
use Rattle.club_requests.specs.declared.questions.GameFilter.{GameFilter}
use Rattle.club_requests.specs.declared.questions.GameFilter.TheVariants.{All, Running, Overdue}
use Rattle.club_lists.specs.GameSummary.{GameSummary, is_late, is_over}

-- name of a member or event; empty if it does not exist
abbrev pub member_name : Option Member → List ℕ
member_name None = []
member_name (Some member) = member.name

-- name of an event; empty if it does not exist
abbrev pub event_name : Option Event → List ℕ
event_name None = []
event_name (Some event) = event.name

-- the name passes the filter, if there is one
abbrev pub is_asked : Option (List ℕ) → List ℕ → Bool
is_asked None name = true
is_asked (Some asked) name = bytes_eq name asked

-- the state of the game passes the filter; only `Overdue` depends on the timestamp
abbrev pub is_which : GameFilter → ℕ → GameSummary → Bool
is_which All moment told = true
is_which Running moment told = not (is_over told)
is_which Overdue moment told = is_late moment told

-- a name is given and no element has it
abbrev pub is_unknown : {A : Type 0} → (List ℕ → A → Bool) → List A → Option (List ℕ) → Bool
is_unknown has all None = false
is_unknown has all (Some name) = not (list_any (has name) all)

-- name of the player who is First
abbrev pub first_name : List Member → GameSummary → List ℕ
first_name members told = member_name (place members told.first)

-- name of the player who is Second
abbrev pub second_name : List Member → GameSummary → List ℕ
second_name members told = member_name (place members told.second)

-- name of the game's event
abbrev pub event_of : List Event → GameSummary → List ℕ
event_of events told = event_name (place events told.event)

-- a player of the game passes the filter by name, if there is one
abbrev pub has_asked : List Member → Option (List ℕ) → GameSummary → Bool
has_asked members asked told = is_asked asked (first_name members told) || is_asked asked (second_name members told)

module _ (members : List Member) (events : List Event) (listing : Listing) where
  -- name of the event that the filter requires, if any
  abbrev pub event_asked : Option (List ℕ)
  event_asked = option_map (λ name. string_bytes name) listing.event

  -- name of the player that the filter requires, if any
  abbrev pub member_asked : Option (List ℕ)
  member_asked = option_map (λ name. string_bytes name) listing.member

  -- the game passes the filter by event, player and state
  abbrev pub is_listed : ℕ → GameSummary → Bool
  is_listed moment told =
      is_asked event_asked (event_of events told)
      && (has_asked members member_asked told && is_which listing.which moment told)

  -- the games that pass the filter at this timestamp, in their order
  abbrev pub listed_games : ℕ → List GameSummary → List GameSummary
  listed_games moment games = filter (is_listed moment) games

  -- the given event or the given member does not exist
  abbrev pub listing_refusal : Option Refusal
  listing_refusal =
      first_refusal
      ((is_unknown has_event_name events event_asked, UnknownEvent)
      ∷ (is_unknown has_member_name members member_asked, BadValue)
      ∷ [])
