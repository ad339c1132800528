-- The standings of an event, from the games in a state of the club.
use Rattle.std.specs.Prelude.{◌≡◌, ℕ, List, length, Some}
use Rattle.cross_tables.specs.declared.sums.OpponentScore.{OpponentScore}
use Rattle.cross_tables.specs.declared.field.FieldLine.{FieldLine}
use Rattle.cross_tables.specs.Field.{IsField}
use Rattle.club_core.specs.Events.{has_event_name}
use Rattle.club_core.specs.Members.{find_id}
use Rattle.club_lists.specs.Standings.{games_in_event, standings_json}
use Rattle.club_rows.specs.Club.{ClubState}
use Rattle.club_answers.specs.CrossTable.{AreScoresIn}
use Rattle.club_answers.specs.Games.{game_summaries}

-- The lines of the standings of the event with this id: one for each member with a game in the event that is not void,
-- running or ended, in the order of places.
pub record AreStandings (s : ClubState) (event : ℕ) (lines : List FieldLine) : Type 0 where
  pub scores : List OpponentScore
  pub scores_are : AreScoresIn s event scores
  pub field_is : IsField (length s.members) scores (games_in_event event (game_summaries s)) lines

-- the text of the standings of the event with this name, if the event exists
abbrev pub IsStandingsText : ClubState → List ℕ → List ℕ → Type 0
IsStandingsText s name text =
    (event : ℕ) × (find_id (has_event_name name) s.events ≡ Some event) × (lines : List FieldLine)
    × AreStandings s event lines × (text ≡ standings_json s.members s.events name lines)
