-- Games, events and challenges as members see them, as JSON.
use Rattle.std.specs.Prelude.{ℕ, ◌-◌, ◌==◌, ◌&&◌, ◌||◌, List, [], ◌∷◌, ◌++◌, length, map, filter, count_by, Bool, true}
use Rattle.std.specs.Prelude.{false, not, nat_lt, is_some, Option, Some, None}
use Rattle.std.specs.Prelude.{codes, if◌then◌else◌}
use Rattle.std.specs.Option.{option_map}
use Rattle.std.specs.Str.{bytes_eq}
use Rattle.serde_json.specs.Data.{Data, boolean, string, object, member, no_members}
use Rattle.serde_json.specs.Written.{compact_text}
use Rattle.club_core.specs.declared.challenges.Challenge.{Challenge}
use Rattle.club_core.specs.declared.challenges.ChallengeState.{ChallengeState}
use Rattle.club_core.specs.declared.challenges.ChallengeState.TheVariants.{Open, Withdrawn, Refused, Accepted}
use Rattle.club_core.specs.Events.{Event}
use Rattle.club_core.specs.Members.{Member}
use Rattle.club_core.specs.State.{has_member_key, place}
use Rattle.club_lists.specs.Clock.{deadline_within, running_turn, while_running}
use Rattle.club_lists.specs.Lines.{game_name, kind_name, player_name}
use Rattle.club_lists.specs.Listing.{event_name, event_of, first_name, has_asked, member_name, second_name}
use Rattle.club_lists.specs.GameSummary.{GameSummary, Running, end_of, is_over, result_of}
use Rattle.club_lists.specs.Newest.{beyond, last_ones, newest}
use Rattle.club_lists.specs.Rounds.{round_in}
use Rattle.club_lists.specs.Values.{array_of, number_data, number_or_null, text_or_null}

-- name of the member with this key
abbrev pub member_name_by_key : List ℕ → List Member → Option (List ℕ)
member_name_by_key key [] = None
member_name_by_key key (m ∷ members) = if has_member_key key m then Some m.name else member_name_by_key key members

-- ---- the games of an event

-- the object of a game in the list of an event; the deadline and the turn are those of its clock, the round that of its
-- key
unfoldable pub event_game_data : List Member → GameSummary → Data
event_game_data members told = object
    (member (codes "deadline") (number_or_null (while_running told (deadline_within told)))
    (member (codes "end") (text_or_null (end_of told))
    (member (codes "first") (string (first_name members told))
    (member (codes "game") (number_data told.id)
    (member (codes "ply") (number_data told.plies)
    (member (codes "result") (text_or_null (result_of told))
    (member (codes "round") (number_or_null (round_in told.key))
    (member (codes "second") (string (second_name members told))
    (member (codes "turn") (text_or_null (running_turn members told)) no_members)))))))))

-- the game is one of the event with this name
abbrev pub is_of_event : List Event → List ℕ → GameSummary → Bool
is_of_event events name told = bytes_eq (event_of events told) name

-- the games of the event with this name, in their order
abbrev pub games_of_event : List Member → List Event → List ℕ → List GameSummary → List Data
games_of_event members events name games = map (event_game_data members) (filter (is_of_event events name) games)

-- the object with these games
unfoldable pub event_games_data : List Member → List Event → List ℕ → List GameSummary → Data
event_games_data members events name games =
    object (member (codes "games") (array_of (games_of_event members events name games)) no_members)

-- its text
abbrev pub event_games_text : List Member → List Event → List ℕ → List GameSummary → List ℕ
event_games_text members events name games = compact_text (event_games_data members events name games)

-- ---- events and opponents for a challenge

-- the object of an event, and whether it takes challenges
unfoldable pub event_data : Event → Data
event_data event = object
    (member (codes "budget") (number_data event.terms.budget)
    (member (codes "event") (string event.name)
    (member (codes "game") (string (game_name event.game))
    (member (codes "increment") (number_data event.terms.increment)
    (member (codes "open") (boolean (not (is_some event.closed))) no_members)))))

-- the member has another key
abbrev pub is_other : List ℕ → Member → Bool
is_other key m = not (has_member_key key m)

-- names of all members except the one with this key
abbrev pub other_names : List ℕ → List Member → List Data
other_names key members = map (λ m. string m.name) (filter (is_other key) members)

-- the object with all events, and with all members except the one with this key
unfoldable pub challenge_choices : List ℕ → List Member → List Event → Data
challenge_choices key members events = object
    (member (codes "events") (array_of (map event_data events))
    (member (codes "members") (array_of (other_names key members)) no_members))

-- its text
abbrev pub challenge_choices_json : List ℕ → List Member → List Event → List ℕ
challenge_choices_json key members events = compact_text (challenge_choices key members events)

-- ---- games and challenges of a member

-- name of the player who offers a draw
abbrev pub offerer : List Member → GameSummary → Option (List ℕ)
offerer members told = option_map (λ side. player_name members side told) told.offer

-- the object of a running game of a member
unfoldable pub own_game_data : List Member → List Event → Running → Data
own_game_data members events running = object
    (member (codes "deadline") (number_or_null (deadline_within running.told))
    (member (codes "event") (string (event_of events running.told))
    (member (codes "first") (string (first_name members running.told))
    (member (codes "game") (number_data running.told.id)
    (member (codes "kind") (string (kind_name events running.told))
    (member (codes "last") (text_or_null running.last)
    (member (codes "offer") (text_or_null (offerer members running.told))
    (member (codes "ply") (number_data running.told.plies)
    (member (codes "position") (string running.position)
    (member (codes "second") (string (second_name members running.told))
    (member (codes "turn") (string (player_name members running.told.turn running.told)) no_members)))))))))))

-- the game is running and the member with this name plays in it
abbrev pub is_own : List Member → List ℕ → GameSummary → Bool
is_own members name told = not (is_over told) && has_asked members (Some name) told

-- ids of the running games of the member with this name, in order
abbrev pub own_game_ids : List Member → List ℕ → List GameSummary → List ℕ
own_game_ids members name games = map (λ told. told.id) (filter (is_own members name) games)

-- the challenge is open
abbrev pub is_open : ChallengeState → Bool
is_open Open = true
is_open Withdrawn = false
is_open Refused = false
is_open (Accepted game) = false

-- the game that an accepted challenge started
abbrev pub started : ChallengeState → Option ℕ
started Open = None
started Withdrawn = None
started Refused = None
started (Accepted game) = Some game

-- the challenge was accepted
abbrev pub is_accepted : ChallengeState → Bool
is_accepted Open = false
is_accepted Withdrawn = false
is_accepted Refused = false
is_accepted (Accepted game) = true

-- the challenge was refused
abbrev pub is_refused : ChallengeState → Bool
is_refused Open = false
is_refused Withdrawn = false
is_refused Refused = true
is_refused (Accepted game) = false

-- name of a challenge's state
abbrev pub state_text : ChallengeState → List ℕ
state_text Open = codes "open"
state_text Withdrawn = codes "withdrawn"
state_text Refused = codes "refused"
state_text (Accepted game) = codes "accepted"

-- the most refused challenges that are listed
abbrev pub most_refused : ℕ
most_refused = 20

-- the most open or accepted challenges by a member that the list has
abbrev pub most_own : ℕ
most_own = 100

-- the most open challenges to a member that the list has
abbrev pub most_received : ℕ
most_received = 100

-- the most of these from one challenger
abbrev pub most_of_each : ℕ
most_of_each = 10

-- the member with this id is the challenger
abbrev pub is_from : ℕ → Challenge → Bool
is_from challenger c = c.member == challenger

-- after these challenges a further one is listed: fewer than `most_received` are in all, and fewer than `most_of_each`
-- from its challenger
abbrev pub has_room : List Challenge → Challenge → Bool
has_room listed c =
    nat_lt (length listed) most_received && nat_lt (count_by (is_from c.member) listed) most_of_each

module _ (members : List Member) where
  -- names of the challenger and of the challenged member
  abbrev pub from_name : Challenge → List ℕ
  from_name c = member_name (place members c.member)

  -- name of the challenged member
  abbrev pub to_name : Challenge → List ℕ
  to_name c = member_name (place members c.other)

  -- names of the players as First and as Second
  abbrev pub first_of : Challenge → List ℕ
  first_of c = if c.first then from_name c else to_name c

  -- name of the player as Second
  abbrev pub second_of : Challenge → List ℕ
  second_of c = if c.first then to_name c else from_name c

  -- the member's own challenge is open or was accepted
  abbrev pub is_own_challenge : List ℕ → Challenge → Bool
  is_own_challenge name c = bytes_eq (from_name c) name && (is_open c.standing || is_accepted c.standing)

  -- the challenge to the member is open
  abbrev pub is_received : List ℕ → Challenge → Bool
  is_received name c = bytes_eq (to_name c) name && is_open c.standing

  -- the member's own challenge was refused
  abbrev pub is_own_refused : List ℕ → Challenge → Bool
  is_own_refused name c = bytes_eq (from_name c) name && is_refused c.standing

  -- the object of a challenge
  unfoldable pub challenge_data : List Event → Challenge → Data
  challenge_data events c = object
      (member (codes "event") (string (event_name (place events c.event)))
      (member (codes "first") (string (first_of c))
      (member (codes "from") (string (from_name c))
      (member (codes "game") (number_or_null (started c.standing))
      (member (codes "number") (number_data c.number)
      (member (codes "second") (string (second_of c))
      (member (codes "state") (string (state_text c.standing))
      (member (codes "to") (string (to_name c)) no_members))))))))

  -- the last of the member's own challenges, in their order
  abbrev pub own_listed : List ℕ → List Challenge → List Challenge
  own_listed name challenges = last_ones most_own (is_own_challenge name) challenges

  -- the number of the member's own challenges that are not listed
  abbrev pub own_left_out : List ℕ → List Challenge → ℕ
  own_left_out name challenges = beyond most_own (is_own_challenge name) challenges

  -- the challenges to the member that are listed, if these are listed of those before: each for which there is room
  abbrev pub received_after : List ℕ → List Challenge → List Challenge → List Challenge
  received_after name listed [] = listed
  received_after name listed (c ∷ challenges) =
      if is_received name c && has_room listed c
      then received_after name (listed ++ c ∷ []) challenges
      else received_after name listed challenges

  -- the challenges to the member that are listed, in their order: the first of each challenger
  abbrev pub received_listed : List ℕ → List Challenge → List Challenge
  received_listed name challenges = received_after name [] challenges

  -- the number of challenges to the member that are not listed
  abbrev pub received_left_out : List ℕ → List Challenge → ℕ
  received_left_out name challenges =
      count_by (is_received name) challenges - length (received_listed name challenges)

  -- the challenges that are listed for the member with this name: those by the member, then those to the member
  abbrev pub listed_challenges : List Event → List ℕ → List Challenge → List Data
  listed_challenges events name challenges =
      map (challenge_data events) (own_listed name challenges ++ received_listed name challenges)

  -- the object with the numbers of those that are left out: by the member, and to the member
  unfoldable pub more_data : List ℕ → List Challenge → Data
  more_data name challenges = object
      (member (codes "from") (number_data (own_left_out name challenges))
      (member (codes "to") (number_data (received_left_out name challenges)) no_members))

  -- the newest refused challenges of the member with this name, newest first
  abbrev pub newest_refused : List Event → List ℕ → List Challenge → List Data
  newest_refused events name challenges =
      map (challenge_data events) (newest most_refused (is_own_refused name) challenges)

-- the object with the listed challenges of the member with this name, these running games, the numbers of challenges
-- that are left out, and the newest refused challenges by the member
unfoldable pub my_games_data : List Member → List Event → List ℕ → ℕ → List Challenge → List Running → Data
my_games_data members events name moment challenges games = object
    (member (codes "challenges") (array_of (listed_challenges members events name challenges))
    (member (codes "games") (array_of (map (own_game_data members events) games))
    (member (codes "member") (string name)
    (member (codes "moment") (number_data moment)
    (member (codes "more") (more_data members name challenges)
    (member (codes "refused") (array_of (newest_refused members events name challenges)) no_members))))))

-- its text
abbrev pub my_games_json : List Member → List Event → List ℕ → ℕ → List Challenge → List Running → List ℕ
my_games_json members events name moment challenges games =
    compact_text (my_games_data members events name moment challenges games)
