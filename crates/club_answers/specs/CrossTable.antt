-- The cross table of an event, from the ended games in a state of the club.
use Rattle.std.specs.Prelude.{◌≡◌, ◌<◌, ◌⊎◌, ℕ, suc, List, [], ◌∷◌, map, Option, Some, None, Bool, nat_lt, true}
use Rattle.sqlite.specs.Order.{Row}
use Rattle.sqlite_rules.specs.Lists.{Has}
use Rattle.sqlite_trees.specs.Tree.{IsAscending}
use Rattle.cross_tables.specs.declared.sums.OpponentScore.{OpponentScore}
use Rattle.cross_tables.specs.declared.standings.Standing.{Standing}
use Rattle.cross_tables.specs.Cells.{cell_of}
use Rattle.cross_tables.specs.Lines.{header_text, line_text}
use Rattle.cross_tables.specs.Places.{AreRanked}
use Rattle.cross_tables.specs.Totals.{AreTotals, games}
use Rattle.club_core.specs.Events.{has_event_name}
use Rattle.club_core.specs.Members.{Member, find_id}
use Rattle.club_core.specs.State.{place}
use Rattle.club_rows.specs.Club.{both_games, ClubState}
use Rattle.club_rows.specs.Scores.{scores_in}
use Rattle.club_rows.specs.Tables.{number}

-- ---- the scores in an event

-- the row of scores of a member against an opponent in the event with this id
abbrev pub scored_row : ℕ → OpponentScore → Row
scored_row event scored =
    number event
    ∷ number scored.member
    ∷ number scored.opponent
    ∷ number scored.sums.points
    ∷ number scored.sums.wins
    ∷ number scored.sums.draws
    ∷ number scored.sums.losses
    ∷ []

-- order by member, then by opponent
abbrev pub ComesBefore : OpponentScore → OpponentScore → Type 0
ComesBefore one other = (one.member < other.member) ⊎ ((one.member ≡ other.member) × (one.opponent < other.opponent))

-- the two have a game that counts: it has ended, and is not void
abbrev pub has_counted : OpponentScore → Bool
has_counted scored = nat_lt 0 (games scored.sums)

-- the scores between members in the games of the event that count, in that order, each pair once
pub record AreScoresIn (s : ClubState) (event : ℕ) (scores : List OpponentScore) : Type 0 where
  pub there : (scored : OpponentScore) → Has scores scored
      → Has (scores_in both_games s.games) (scored_row event scored) × (has_counted scored ≡ true)
  pub back : (scored : OpponentScore) → Has (scores_in both_games s.games) (scored_row event scored)
      → has_counted scored ≡ true → Has scores scored
  pub order : IsAscending ComesBefore scores

-- ---- the lines

-- the name of a member; empty if the member does not exist
abbrev pub name_in : Option Member → List ℕ
name_in None = []
name_in (Some member) = member.name

module _ (members : List Member) (scores : List OpponentScore) (standings : List Standing) where
  -- the line of a standing at a place, from 1
  abbrev pub standing_line : ℕ → Standing → List ℕ
  standing_line at standing =
      line_text at (name_in (place members standing.member)) standing.sums
      (map (λ other. cell_of scores standing.member other.member) standings)

  -- the lines of these standings, from this place on
  abbrev pub lines_from : ℕ → List Standing → List (List ℕ)
  lines_from at [] = []
  lines_from at (standing ∷ rest) = standing_line at standing ∷ lines_from (suc at) rest

-- The lines of the cross table of the event with this id and name: the header, then one line for each member with a
-- game that counts in the event, in the order of places.
pub record IsCrossTable (s : ClubState) (event : ℕ) (name : List ℕ) (lines : List (List ℕ)) : Type 0 where
  pub scores : List OpponentScore
  pub scores_are : AreScoresIn s event scores
  pub standings : List Standing
  pub totals : AreTotals standings scores
  pub ranked : AreRanked standings
  pub lines_are : lines ≡ header_text name ∷ lines_from s.members scores standings 1 standings

-- the cross table of the event with this name, if the club has such an event
abbrev pub AreTableRows : ClubState → List ℕ → Option (List (List ℕ)) → Type 0
AreTableRows s name None = find_id (has_event_name name) s.events ≡ None
AreTableRows s name (Some lines) =
    (event : ℕ) × (find_id (has_event_name name) s.events ≡ Some event) × IsCrossTable s event name lines
