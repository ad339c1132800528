-- The ended games of a member, as JSON.
use Rattle.std.specs.Prelude.{ℕ, ◌&&◌, ◌||◌, List, map, Bool, Option, Some, None, codes, if◌then◌else◌}
use Rattle.serde_json.specs.Data.{Data, string, object, member, no_members}
use Rattle.serde_json.specs.Written.{compact_text}
use Rattle.club_requests.specs.OutsideEnd.{is_outside}
use Rattle.club_requests.specs.Rulings.{is_verdict}
use Rattle.club_core.specs.Events.{Event}
use Rattle.club_core.specs.Members.{Member}
use Rattle.club_lists.specs.GameSummary.{GameSummary, Over, end_of, is_over, result_of}
use Rattle.club_lists.specs.Lines.{kind_name}
use Rattle.club_lists.specs.Listing.{event_of, first_name, has_asked, second_name}
use Rattle.club_lists.specs.Newest.{beyond, newest}
use Rattle.club_lists.specs.Values.{array_of, number_data, number_or_null, text_or_null}

-- the most games that are listed
abbrev pub most_ended : ℕ
most_ended = 200

-- timestamp of an end: that of the last move if this move made it, otherwise it is not known
abbrev pub moment_of : ℕ → Option Over → Option ℕ
moment_of since None = None
moment_of since (Some over) = if is_outside over.end || is_verdict over.end then None else Some since

-- the timestamp at which the game ended, if it is known
abbrev pub end_moment : GameSummary → Option ℕ
end_moment told = moment_of told.clocks.since told.over

-- the object of an ended game
unfoldable pub ended_data : List Member → List Event → GameSummary → Data
ended_data members events told = object
    (member (codes "end") (text_or_null (end_of told))
    (member (codes "ended") (number_or_null (end_moment told))
    (member (codes "event") (string (event_of events told))
    (member (codes "first") (string (first_name members told))
    (member (codes "game") (number_data told.id)
    (member (codes "kind") (string (kind_name events told))
    (member (codes "ply") (number_data told.plies)
    (member (codes "result") (text_or_null (result_of told))
    (member (codes "second") (string (second_name members told)) no_members)))))))))

-- the game has ended and the member with this name played in it
abbrev pub is_own_ended : List Member → List ℕ → GameSummary → Bool
is_own_ended members name told = is_over told && has_asked members (Some name) told

-- the newest ended games of the member with this name, newest first
abbrev pub newest_ended : List Member → List Event → List ℕ → List GameSummary → List Data
newest_ended members events name games =
    map (ended_data members events) (newest most_ended (is_own_ended members name) games)

-- the object with these games, and with the number of the member's other ended games
unfoldable pub ended_games_data : List Member → List Event → List ℕ → ℕ → List GameSummary → Data
ended_games_data members events name moment games = object
    (member (codes "games") (array_of (newest_ended members events name games))
    (member (codes "member") (string name)
    (member (codes "moment") (number_data moment)
    (member (codes "more") (number_data (beyond most_ended (is_own_ended members name) games)) no_members))))

-- its text
abbrev pub ended_games_json : List Member → List Event → List ℕ → ℕ → List GameSummary → List ℕ
ended_games_json members events name moment games = compact_text (ended_games_data members events name moment games)
