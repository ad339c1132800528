-- The standings of an event, as JSON.
use Rattle.std.specs.Prelude.{ℕ, suc, ◌==◌, ◌&&◌, not, Bool, List, [], ◌∷◌, map, filter, codes}
use Rattle.serde_json.specs.Data.{Data, string, object, member, no_members}
use Rattle.serde_json.specs.Written.{compact_text}
use Rattle.cross_tables.specs.declared.field.EventGame.{EventGame}
use Rattle.cross_tables.specs.declared.field.FieldLine.{FieldLine}
use Rattle.cross_tables.specs.Totals.{games}
use Rattle.club_core.specs.Events.{Event, event_kind}
use Rattle.club_core.specs.Members.{Member}
use Rattle.club_core.specs.State.{place}
use Rattle.club_lists.specs.GameSummary.{GameSummary, is_over, is_void}
use Rattle.club_lists.specs.Lines.{game_name}
use Rattle.club_lists.specs.Listing.{member_name}
use Rattle.club_lists.specs.Values.{array_of, number_data}

-- the players of a game, and whether it has ended
abbrev pub event_game : GameSummary → EventGame
event_game told = record { first = told.first; second = told.second; is_over = is_over told }

-- the game is one of the event with this id, and not void
abbrev pub counts_in : ℕ → GameSummary → Bool
counts_in event told = told.event == event && not (is_void told)

-- the games of the event with this id that are not void, in their order
abbrev pub games_in_event : ℕ → List GameSummary → List EventGame
games_in_event event games = map event_game (filter (counts_in event) games)

-- the object of a line at a place, from 1
unfoldable pub standing_data : List Member → ℕ → FieldLine → Data
standing_data members at line = object
    (member (codes "draws") (number_data line.standing.sums.draws)
    (member (codes "games") (number_data (games line.standing.sums))
    (member (codes "losses") (number_data line.standing.sums.losses)
    (member (codes "member") (string (member_name (place members line.standing.member)))
    (member (codes "place") (number_data at)
    (member (codes "points") (number_data line.standing.sums.points)
    (member (codes "running") (number_data line.running)
    (member (codes "sonneborn_berger") (number_data line.sonneborn_berger)
    (member (codes "wins") (number_data line.standing.sums.wins) no_members)))))))))

-- the objects of these lines, from this place on
abbrev pub standings_from : List Member → ℕ → List FieldLine → List Data
standings_from members at [] = []
standings_from members at (line ∷ lines) = standing_data members at line ∷ standings_from members (suc at) lines

-- the object with the event, its game, and these lines in their order
unfoldable pub standings_data : List Member → List Event → List ℕ → List FieldLine → Data
standings_data members events name lines = object
    (member (codes "event") (string name)
    (member (codes "kind") (string (game_name (event_kind events name)))
    (member (codes "standings") (array_of (standings_from members 1 lines)) no_members)))

-- its text
abbrev pub standings_json : List Member → List Event → List ℕ → List FieldLine → List ℕ
standings_json members events name lines = compact_text (standings_data members events name lines)
