-- The members, events, games and challenges of a club as JSON.
use Rattle.std.specs.Prelude.{ℕ, suc, List, [], ◌∷◌, map, is_some, not, codes}
use Rattle.serde_json.specs.Data.{Data, boolean, string, object, member, no_members}
use Rattle.serde_json.specs.Written.{compact_text}
use Rattle.club_core.specs.declared.challenges.Challenge.{Challenge}
use Rattle.club_core.specs.Events.{Event}
use Rattle.club_core.specs.Members.{Member}
use Rattle.club_lists.specs.Clock.{deadline_within, running_turn, while_running}
use Rattle.club_lists.specs.GameSummary.{GameSummary, end_of, result_of}
use Rattle.club_lists.specs.Lines.{game_name, games_of, kind_name, running_of}
use Rattle.club_lists.specs.Listing.{event_of, first_name, second_name}
use Rattle.club_lists.specs.Shows.{challenge_data}
use Rattle.club_lists.specs.Values.{array_of, number_data, number_or_null, text_array, text_or_null}

-- ---- members

-- the object with the names of all members, by id; keys are never written
unfoldable pub members_data : List Member → Data
members_data members = object (member (codes "members") (text_array (map (λ m. m.name) members)) no_members)

-- its text
abbrev pub members_json : List Member → List ℕ
members_json members = compact_text (members_data members)

-- ---- events

-- the object of the event with this id: its rules, the numbers of its games and of its running games, and whether it
-- takes challenges
unfoldable pub event_entry_data : List GameSummary → ℕ → Event → Data
event_entry_data games id event = object
    (member (codes "budget") (number_data event.terms.budget)
    (member (codes "event") (string event.name)
    (member (codes "game") (string (game_name event.game))
    (member (codes "games") (number_data (games_of id games))
    (member (codes "id") (number_data id)
    (member (codes "increment") (number_data event.terms.increment)
    (member (codes "open") (boolean (not (is_some event.closed)))
    (member (codes "running") (number_data (running_of id games)) no_members))))))))

-- the objects of these events, whose ids count up from this one
abbrev pub event_entries_from : List GameSummary → ℕ → List Event → List Data
event_entries_from games id [] = []
event_entries_from games id (event ∷ events) =
    event_entry_data games id event ∷ event_entries_from games (suc id) events

-- the object with all events, by id
unfoldable pub events_data : List GameSummary → List Event → Data
events_data games events = object (member (codes "events") (array_of (event_entries_from games 1 events)) no_members)

-- its text
abbrev pub events_json : List GameSummary → List Event → List ℕ
events_json games events = compact_text (events_data games events)

module _ (members : List Member) (events : List Event) where
  -- ---- games

  -- the object of a game: what its line has; the deadline and the turn are those of its clock
  unfoldable pub game_entry_data : GameSummary → Data
  game_entry_data told = object
      (member (codes "deadline") (number_or_null (while_running told (deadline_within told)))
      (member (codes "end") (text_or_null (end_of told))
      (member (codes "event") (string (event_of events told))
      (member (codes "first") (string (first_name members told))
      (member (codes "game") (number_data told.id)
      (member (codes "key") (text_or_null told.key)
      (member (codes "kind") (string (kind_name events told))
      (member (codes "ply") (number_data told.plies)
      (member (codes "result") (text_or_null (result_of told))
      (member (codes "second") (string (second_name members told))
      (member (codes "turn") (text_or_null (running_turn members told)) no_members)))))))))))

  -- the object with these games
  unfoldable pub games_data : List GameSummary → Data
  games_data games = object (member (codes "games") (array_of (map game_entry_data games)) no_members)

  -- its text
  abbrev pub games_json : List GameSummary → List ℕ
  games_json games = compact_text (games_data games)

  -- ---- challenges

  -- the object with these challenges
  unfoldable pub challenges_data : List Challenge → Data
  challenges_data challenges =
      object (member (codes "challenges") (array_of (map (challenge_data members events) challenges)) no_members)

  -- its text
  abbrev pub challenges_json : List Challenge → List ℕ
  challenges_json challenges = compact_text (challenges_data challenges)
