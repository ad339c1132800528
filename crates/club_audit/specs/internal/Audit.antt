-- The checks of single tables: the members, events, challenges and games of a legal club. No promise of the program
-- rests on these definitions.
use Rattle.std.specs.Prelude.{◌≡◌, ◌≢◌, ◌+◌, ◌<◌, ◌≤◌, ℕ, pos, List, map, length, Option, Some, Bool, slice_get}
use Rattle.std.specs.Prelude.{string_bytes, IfSome, int_le, true}
use Rattle.std.specs.List.{list_all}
use Rattle.std.specs.Option.{option_map}
use Rattle.club_rules.specs.GameRules.{GameRules}
use Rattle.club_core.specs.declared.rows.GameView.{GameView}
use Rattle.club_requests.specs.declared.outside_end.OutsideEnd.TheVariants.{Time}
use Rattle.club_requests.specs.Limits.{last_moment, most_members, most_events, most_games}
use Rattle.club_core.specs.declared.challenges.Challenge.{Challenge}
use Rattle.club_core.specs.Members.{Member}
use Rattle.club_core.specs.Events.{Event}
use Rattle.club_core.specs.Game.{left_of}
use Rattle.club_core.specs.LegalState.{Each, HaveUniqueKeys, HaveUniqueKeysIfAny}
use Rattle.club_core.specs.LegalState.{IsLegalMember, IsLegalEvent, IsLegalIn}
use Rattle.club_core.specs.State.{place}
use Rattle.club_core.specs.View.{clocks_in}
use Rattle.store_tables.specs.Cells.{event_cells, move_cells, game_cells, seen_cells, ruling_cells}
use Rattle.store_tables.specs.internal.Cells.{event_rule_cells, member_cells}
use Rattle.store_tables.specs.declared.rows.MemberRow.{MemberRow}
use Rattle.store_tables.specs.declared.rows.EventRow.{EventRow}
use Rattle.store_tables.specs.declared.rows.EventRuleRow.{EventRuleRow}
use Rattle.store_tables.specs.declared.rows.MoveRow.{MoveRow}
use Rattle.store_tables.specs.declared.rows.RulingRow.{RulingRow}
use Rattle.store_tables.specs.declared.rows.GameTableRow.{GameTableRow}
use Rattle.store_tables.specs.declared.rows.Rows.{Rows}
use Rattle.store_tables.specs.declared.rows.SeenRow.{SeenRow}
use Rattle.store_tables.specs.declared.names.Table.{Table}
use Rattle.store_tables.specs.declared.names.Table.TheVariants.{Members, Events, EventRules, Challenges, Games, Meta}
use Rattle.store_tables.specs.declared.names.Table.TheVariants.{Keys, Closings}
use Rattle.club_rows.specs.Club.{ClubState, ClubGame, both_games}
use Rattle.club_rows.specs.EachOnce.{AreEachOnce}
use Rattle.club_audit.specs.internal.ChallengeAudit.{AreChallenges}
use Rattle.club_audit.specs.internal.ClosingAudit.{AreClosingsAfter, AreClosingsOf, IsClosedBy}
use Rattle.club_audit.specs.internal.KeyAudit.{AreKeysOf}
use Rattle.club_rows.specs.Tables.{member_row, event_row, rule_row, declares_number, numbered_from, row_of_game}
use Rattle.club_rows.specs.Tables.{rows_of_moves, rows_of_rulings, rows_of_seen}

-- ---- members

-- if the other row is another member, it has another name and another key
pub record IsOtherMember (row other : MemberRow) : Type 0 where
  pub name : other.id ≢ row.id → string_bytes other.name ≢ string_bytes row.name
  pub key : other.id ≢ row.id → string_bytes other.key ≢ string_bytes row.key

-- the row is that of a legal member at this place (from 0), and no other has the same name or key
pub record IsMemberAt (rows : List MemberRow) (index : ℕ) (row : MemberRow) : Type 0 where
  pub member : Member
  pub cells : member_cells row ≡ member_row (index + 1) member
  pub legal : IsLegalMember member
  pub others : Each (IsOtherMember row) rows

-- the rows are those of the members of a legal club
pub record AreMembers (members : List Member) (rows : List MemberRow) : Type 0 where
  pub rows_are : map member_cells rows ≡ numbered_from member_row 1 members
  pub legal : Each IsLegalMember members
  pub count : length members ≤ most_members
  pub names : HaveUniqueKeys (λ m. m.name) members
  pub keys : HaveUniqueKeys (λ m. m.key) members

-- if the other row is another event, it has another name
abbrev pub IsOtherEvent : EventRow → EventRow → Type 0
IsOtherEvent row other = other.id ≢ row.id → string_bytes other.name ≢ string_bytes row.name

-- the row is that of a legal event at this place (from 0), and no other has the same name
pub record IsEventAt (rows : List EventRow) (index : ℕ) (row : EventRow) : Type 0 where
  pub event : Event
  pub cells : event_cells row ≡ event_row (index + 1) event
  pub legal : IsLegalEvent event
  pub others : Each (IsOtherEvent row) rows

-- the rows are those of the events of a legal club
pub record AreEvents (events : List Event) (rows : List EventRow) : Type 0 where
  pub rows_are : map event_cells rows ≡ numbered_from event_row 1 events
  pub legal : Each IsLegalEvent events
  pub count : length events ≤ most_events
  pub names : HaveUniqueKeys (λ e. e.name) events

-- the row says whether declarations are allowed
abbrev pub SaysDeclares : EventRuleRow → Bool → Type 0
SaysDeclares row declares = row.declares ≡ pos (declares_number declares)

-- the row is that of the event's rules at this place (from 0)
pub record IsRuleAt (index : ℕ) (row : EventRuleRow) : Type 0 where
  pub event_is : row.event ≡ pos (index + 1)
  pub declares : Bool
  pub says : SaysDeclares row declares

-- the rows are those of the rules of these events
abbrev pub AreRulesOf : List Event → List EventRuleRow → Type 0
AreRulesOf events rules = map event_rule_cells rules ≡ numbered_from rule_row 1 events

-- the rows are those of the rules of `count` events
pub record AreRules (rules : List EventRuleRow) (count : ℕ) : Type 0 where
  pub number : length rules ≡ count
  pub rows_are : (index : ℕ) (row : EventRuleRow) → slice_get rules index ≡ Some row → IsRuleAt index row

-- ---- games

-- the rows of members, events and event rules are those of the club
pub record HasPeople (s : ClubState) (rows : Rows) : Type 0 where
  pub members : AreMembers s.members rows.members.items
  pub events : AreEvents s.events rows.events.items
  pub rules : AreRulesOf s.events rows.event_rules.items

-- the club with this timestamp of the last command
abbrev pub until : ℕ → ClubState → ClubState
until last s = record s { last = last }

-- the game refers to this event, whose row this is
pub record NamesEvent (rows : Rows) (game : GameTableRow) (event : ℕ) (row : EventRow) : Type 0 where
  pub event_is : game.event ≡ pos event
  pub row_is : place rows.events.items event ≡ Some row

-- the rules of the game's event say whether declarations are allowed
pub record NamesRule (rows : Rows) (game : GameTableRow) (event : ℕ) (declares : Bool) : Type 0 where
  pub event_is : game.event ≡ pos event
  pub rule : EventRuleRow
  pub rule_is : place rows.event_rules.items event ≡ Some rule
  pub says : SaysDeclares rule declares

-- the game refers to these players, who are members
pub record NamesPlayers (rows : Rows) (game : GameTableRow) (first second : ℕ) : Type 0 where
  pub first_is : game.first ≡ pos first
  pub second_is : game.second ≡ pos second
  pub first_low : 0 < first
  pub first_high : first ≤ length rows.members.items
  pub second_low : 0 < second
  pub second_high : second ≤ length rows.members.items

-- no ruling is later than this
abbrev pub are_given_by : ℕ → List RulingRow → Bool
are_given_by last rulings = list_all (λ r. int_le r.moment (pos last)) rulings

-- the clocks started at or before `last`, no ruling is later, and a loss on time had happened by then
pub record IsWithin {R P M E T : Type 0} (rules : GameRules P M E T) (view : GameView R P M E T)
    (rulings : List RulingRow) (last : ℕ) : Type 0 where
  pub since : view.row.since ≤ last
  pub given : are_given_by last rulings ≡ true
  pub lost_by_time : view.row.outside ≡ Some Time
      → view.row.since + left_of (rules.turn view.position) (clocks_in view.row) < last

-- the same if `last` is given
abbrev pub IsWithinGiven : {R P M E T : Type 0} → GameRules P M E T → GameView R P M E T → List RulingRow → Option ℕ
    → Type 0
IsWithinGiven rules view rulings last = (n : ℕ) → last ≡ Some n → n ≤ last_moment → IsWithin rules view rulings n

-- the rows are those of this game of the club, with this id
pub record IsGameAt (s : ClubState) (id : ℕ) (row : GameTableRow) (moves : List MoveRow)
    (rulings : List RulingRow) (game : ClubGame) : Type 0 where
  pub legal : IsLegalIn both_games s game
  pub row_is : game_cells row ≡ row_of_game both_games s.events id game
  pub moves_are : map move_cells moves ≡ rows_of_moves both_games s.events id game
  pub rulings_are : map ruling_cells rulings ≡ rows_of_rulings id game

-- these are all rows of this game of the club; its positions each once, in any order
pub record AreAllOf (s : ClubState) (id : ℕ) (row : GameTableRow) (moves : List MoveRow)
    (rulings : List RulingRow) (seen : List SeenRow) (game : ClubGame) : Type 0 where
  pub at : IsGameAt s id row moves rulings game
  pub seen_are : AreEachOnce (map seen_cells seen) (rows_of_seen both_games id game)

-- ---- a club except moves and positions

-- the number of games is within the limit, and no two have the same key
pub record AreApartGames (games : List GameTableRow) : Type 0 where
  pub few : length games ≤ most_games
  pub keys : HaveUniqueKeysIfAny (λ r. option_map (λ s. string_bytes s) r.key) games

-- The rows of `meta`, members, keys, events, closings and challenges are those of a legal club; the number of games is
-- within the limit, and no two have the same key.
pub record HaveRegister (rows : Rows) : Type 0 where
  pub state : ClubState
  pub moment : rows.meta.last ≡ pos state.last
  pub within : state.last ≤ last_moment
  pub people : HasPeople state rows
  pub keys : AreKeysOf state.members rows.keys.items
  pub closings : AreClosingsOf state.events rows.closings.items
  pub closed_by : Each (λ e. IfSome e.closed (λ moment. moment ≤ state.last)) state.events
  pub challenges : AreChallenges state.challenges rows
  pub games : AreApartGames rows.games.items

-- the condition on each table
abbrev pub IsRightInRegister : Rows → Table → Type 0
IsRightInRegister rows Members = (ms : List Member) × AreMembers ms rows.members.items
IsRightInRegister rows Keys = (ms : List Member) × AreMembers ms rows.members.items × AreKeysOf ms rows.keys.items
IsRightInRegister rows Events = (es : List Event) × AreEvents es rows.events.items
IsRightInRegister rows EventRules = AreRules rows.event_rules.items (length rows.events.items)
IsRightInRegister rows Closings = AreClosingsAfter (length rows.events.items) 0 rows.closings.items
IsRightInRegister rows Challenges = (cs : List Challenge) × AreChallenges cs rows
IsRightInRegister rows Games = AreApartGames rows.games.items
IsRightInRegister rows Meta =
    (n : ℕ) × (rows.meta.last ≡ pos n) × (n ≤ last_moment) × Each (IsClosedBy n) rows.closings.items
IsRightInRegister rows t = Unit {0}
