-- The tables of a club: the rows of each state.
use Rattle.std.specs.Prelude.{ℕ, suc, pos, ◌+◌, ◌==◌, Bool, true, false, List, [], ◌∷◌, ◌++◌, length, map, Option, Some}
use Rattle.std.specs.Prelude.{None, if◌then◌else◌}
use Rattle.std.specs.Option.{option_map, option_to_list}
use Rattle.sqlite_value.specs.declared.value.Value.{Value}
use Rattle.sqlite_value.specs.declared.value.Value.TheVariants.{Int, Text}
use Rattle.sqlite.specs.Values.{or_null}
use Rattle.sqlite.specs.Order.{Row}
use Rattle.squares.specs.declared.sides.Side.{Side}
use Rattle.squares.specs.declared.sides.Side.TheVariants.{First, Second}
use Rattle.squares.specs.declared.sides.Score.{Score}
use Rattle.squares.specs.Sides.{score_text}
use Rattle.club_rules.specs.declared.names.GameKind.{GameKind}
use Rattle.club_rules.specs.declared.names.GameKind.TheVariants.{Draughts, Shogi}
use Rattle.club_rules.specs.GameRules.{GameRules}
use Rattle.club_requests.specs.declared.outside_end.OutsideEnd.{OutsideEnd}
use Rattle.club_requests.specs.declared.rulings.Ruling.{Ruling}
use Rattle.club_requests.specs.declared.rulings.Ruling.TheVariants.{Grant, Award, Void}
use Rattle.club_requests.specs.declared.rulings.Verdict as given_verdict
use Rattle.club_requests.specs.OutsideEnd.{outside_score, outside_text}
use Rattle.club_requests.specs.Rulings.{verdict_in, verdict_text}
use Rattle.club_core.specs.ClubRules.{ClubRules}
use Rattle.club_rules.specs.EndName.{end_text}
use Rattle.club_core.specs.declared.challenges.Challenge.{Challenge}
use Rattle.club_core.specs.declared.challenges.ChallengeState.{ChallengeState}
use Rattle.club_core.specs.declared.challenges.ChallengeState.TheVariants.{Open, Withdrawn, Refused, Accepted}
use Rattle.club_core.specs.declared.rows.GameEnd.{GameEnd}
use Rattle.club_core.specs.declared.rows.GameEnd.TheVariants.{Rule, Verdict, Outside}
use Rattle.club_core.specs.Members.{Member}
use Rattle.club_core.specs.Events.{Terms, Event}
use Rattle.club_rules.specs.Line.{line_numbers}
use Rattle.club_core.specs.Rulings.{GivenRuling}
use Rattle.club_core.specs.Game.{Entry, Game, clocks_of, clocks_then, moves_of, left_of, last_position, turn_of, end_of}
use Rattle.club_core.specs.Game.{result_of, side_after}
use Rattle.club_core.specs.State.{AnyGame, draughts, shogi, State, place, terms_at}
use Rattle.store_tables.specs.Contents.{Content}
use Rattle.store_tables.specs.Names.{tree_of}
use Rattle.store_tables.specs.Tables.{schema_number}
use Rattle.store_tables.specs.declared.names.Table.TheVariants.{Meta, Members, Events, Challenges, Moves}
use Rattle.store_tables.specs.declared.names.Table.TheVariants.{Games, Seen, Scores, EventRules, Keys, Rulings}
use Rattle.store_tables.specs.declared.names.Table.TheVariants.{Closings}
use Rattle.store_tables.specs.declared.names.Version.{Version}
use Rattle.store_tables.specs.declared.names.Version.TheVariants.{V2, V3}
use Rattle.club_rows.specs.Seen.{seen_rows}
use Rattle.club_rows.specs.Scores.{scores_in}

-- a number as an SQL integer
abbrev pub number : ℕ → Value
number n = Int (pos n)

-- 0 for First, 1 for Second
abbrev pub side_number : Side → ℕ
side_number First = 0
side_number Second = 1

-- 0 for draughts, 1 for shogi
abbrev pub kind_number : GameKind → ℕ
kind_number Draughts = 0
kind_number Shogi = 1

-- the number of a challenge's state
abbrev pub standing_number : ChallengeState → ℕ
standing_number Open = 0
standing_number Withdrawn = 1
standing_number Refused = 2
standing_number (Accepted game) = 3

-- 1 if the challenger plays First
abbrev pub first_number : Bool → ℕ
first_number true = 1
first_number false = 0

-- the name of an end
abbrev pub end_name_text : {P M E T : Type 0} → GameRules P M E T → GameEnd E → List ℕ
end_name_text rules (Rule e) = end_text (rules.end_name e)
end_name_text rules (Verdict v) = verdict_text v
end_name_text rules (Outside o) = outside_text o

-- ---- one game

-- the game with one more entry
abbrev pub with_entry : {M : Type 0} → Game M → Entry M → Game M
with_entry game e = record game { entries = game.entries ++ e ∷ [] }

-- the game before its first entry
abbrev pub at_start : {M : Type 0} → Game M → Game M
at_start game = record game { entries = [] }

module _ {P M E T : Type 0} (rules : GameRules P M E T) (terms : Terms) (id : ℕ) where
  -- the row of the game with this id
  abbrev pub game_row : Game M → Row
  game_row game =
      number id
      ∷ or_null Text game.key
      ∷ number game.event
      ∷ number game.first
      ∷ number game.second
      ∷ number game.start
      ∷ number (clocks_of game terms).since
      ∷ number (length game.entries)
      ∷ number (clocks_of game terms).left_first
      ∷ number (clocks_of game terms).left_second
      ∷ or_null (λ o. number (side_number o.side)) game.offer
      ∷ or_null (λ o. number o.ply) game.offer
      ∷ or_null (λ e. Text (end_name_text rules e)) (end_of rules game)
      ∷ or_null (λ score. Text (score_text score)) (result_of rules game)
      ∷ Text (rules.write_position (last_position rules game))
      ∷ number (line_numbers rules (moves_of game)).0
      ∷ number (line_numbers rules (moves_of game)).1
      ∷ []

  -- the row of an entry that is played next: the move in notation, the mover's remaining seconds right after it, and
  -- the position after it
  abbrev pub entry_row : Game M → Entry M → Row
  entry_row game e =
      number id
      ∷ number (length game.entries + 1)
      ∷ Text (rules.write_move (last_position rules game) e.made)
      ∷ number e.moment
      ∷ number (left_of (turn_of rules game) (clocks_then (with_entry game e) terms))
      ∷ Text (rules.write_position (last_position rules (with_entry game e)))
      ∷ []

  -- the rows of entries that are played in order
  abbrev pub entry_rows : Game M → List (Entry M) → List Row
  entry_rows game [] = []
  entry_rows game (e ∷ es) = entry_row game e ∷ entry_rows (with_entry game e) es

  -- the rows of the game's moves
  abbrev pub move_rows : Game M → List Row
  move_rows game = entry_rows (at_start game) game.entries

-- ---- the rulings on a game

-- 0 for a grant to First, 1 for a grant to Second, 2 for an award, 3 for a void game
abbrev pub ruling_number : Ruling → ℕ
ruling_number (Grant First seconds) = 0
ruling_number (Grant Second seconds) = 1
ruling_number (Award score) = 2
ruling_number Void = 3

-- the seconds that a ruling grants; 0 if it is no grant
abbrev pub granted_seconds : Ruling → ℕ
granted_seconds (Grant side seconds) = seconds
granted_seconds (Award score) = 0
granted_seconds Void = 0

-- the score that a ruling awards, if it is an award
abbrev pub awarded_score : Ruling → Option Score
awarded_score (Grant side seconds) = None
awarded_score (Award score) = Some score
awarded_score Void = None

-- the row of `rulings` of the ruling with this number on the game with this id; `beneath` is the end outside the rules
-- that it replaces
abbrev pub ruling_row : (game number : ℕ) → GivenRuling → (beneath : Option OutsideEnd) → Row
ruling_row game n r beneath =
    number game
    ∷ number n
    ∷ number r.moment
    ∷ number r.plies
    ∷ number (ruling_number r.ruling)
    ∷ number (granted_seconds r.ruling)
    ∷ or_null (λ score. Text (score_text score)) (awarded_score r.ruling)
    ∷ or_null (λ end. Text (outside_text end)) beneath
    ∷ or_null (λ end. Text (score_text (outside_score end (side_after r.plies)))) beneath
    ∷ []

-- the end outside the rules that a ruling with this verdict replaces
abbrev pub replaced_by : Option given_verdict.Verdict → Option OutsideEnd → Option OutsideEnd
replaced_by None outside = None
replaced_by (Some verdict) outside = outside

-- the end outside the rules that the next ruling can still replace
abbrev pub kept_by : Option given_verdict.Verdict → Option OutsideEnd → Option OutsideEnd
kept_by None outside = outside
kept_by (Some verdict) outside = None

-- the rows of these rulings with consecutive numbers; only the first verdict replaces the end outside the rules
abbrev pub ruling_rows_from : (game number : ℕ) → Option OutsideEnd → List GivenRuling → List Row
ruling_rows_from game n outside [] = []
ruling_rows_from game n outside (r ∷ rs) =
    ruling_row game n r (replaced_by (verdict_in r.ruling) outside)
    ∷ ruling_rows_from game (suc n) (kept_by (verdict_in r.ruling) outside) rs

-- the rows of `rulings` of the game with this id; rulings are numbered from 1
abbrev pub ruling_rows : {M : Type 0} → ℕ → Game M → List Row
ruling_rows id game = ruling_rows_from id 1 game.outside game.rulings

-- ---- a club

-- the row of `members` with this id
abbrev pub member_row : ℕ → Member → Row
member_row id m = number id ∷ Text m.name ∷ Text m.key ∷ []

-- the row of `events` with this id
abbrev pub event_row : ℕ → Event → Row
event_row id e = number id ∷ Text e.name ∷ number (kind_number e.game) ∷ number e.terms.budget
    ∷ number e.terms.increment ∷ []

-- 1 if the event's players may declare a win
abbrev pub declares_number : Bool → ℕ
declares_number true = 1
declares_number false = 0

-- the row of `event_rules` of the event with this id
abbrev pub rule_row : ℕ → Event → Row
rule_row id e = number id ∷ number (declares_number e.terms.declares) ∷ []

-- the row of `keys` of a key that the member with this id was given under this number
abbrev pub key_row : (member number : ℕ) → (key : List ℕ) → Row
key_row member n key = number member ∷ number n ∷ Text key ∷ []

-- the row of `closings` of the event with this id, which was closed at this timestamp
abbrev pub closing_row : (event moment : ℕ) → Row
closing_row event moment = number event ∷ number moment ∷ []

-- the only row of `meta`: schema number and timestamp of the last accepted command
abbrev pub meta_row : ℕ → ℕ → Row
meta_row schema last = number 1 ∷ number schema ∷ number last ∷ []

-- the game that an accepted challenge started
abbrev pub game_started : ChallengeState → Option ℕ
game_started Open = None
game_started Withdrawn = None
game_started Refused = None
game_started (Accepted game) = Some game

-- the row of `challenges` of a challenge
abbrev pub challenge_row : Challenge → Row
challenge_row c =
    number c.member
    ∷ number c.number
    ∷ number c.event
    ∷ number c.other
    ∷ number (first_number c.first)
    ∷ number (standing_number c.standing)
    ∷ or_null number (game_started c.standing)
    ∷ []

-- one row for each element, with consecutive ids
abbrev pub numbered_from : {A : Type 0} → (ℕ → A → Row) → ℕ → List A → List Row
numbered_from row id [] = []
numbered_from row id (x ∷ xs) = row id x ∷ numbered_from row (suc id) xs

-- the rows of each element, with consecutive ids
abbrev pub gathered_from : {A : Type 0} → (ℕ → A → List Row) → ℕ → List A → List Row
gathered_from rows id [] = []
gathered_from rows id (x ∷ xs) = rows id x ++ gathered_from rows (suc id) xs

-- the rows of `keys` of the member with this id; later keys are numbered from 1
abbrev pub rows_of_keys : ℕ → Member → List Row
rows_of_keys id m = numbered_from (key_row id) 1 m.later

-- the row of `closings` of the event with this id, if it is closed
abbrev pub rows_of_closing : ℕ → Event → List Row
rows_of_closing id e = option_to_list (option_map (closing_row id) e.closed)

-- the rows of `rulings` of the game with this id
abbrev pub rows_of_rulings : {DM SM : Type 0} → ℕ → AnyGame DM SM → List Row
rows_of_rulings id (draughts g) = ruling_rows id g
rows_of_rulings id (shogi g) = ruling_rows id g

-- the schema version of a club: schema 3 if it has an arbiter, otherwise schema 2
abbrev pub version_of : {DM SM : Type 0} → State DM SM → Version
version_of s = if s.has_arbiter then V3 else V2

module _ {DP DM DE DT SP SM SE ST : Type 0} (rules : ClubRules DP DM DE DT SP SM SE ST) where
  -- the rows of `seen` of the game with this id
  abbrev pub rows_of_seen : ℕ → AnyGame DM SM → List Row
  rows_of_seen id (draughts g) = seen_rows rules.draughts id g
  rows_of_seen id (shogi g) = seen_rows rules.shogi id g

  module _ (events : List Event) where
    -- the row of `games` of the game with this id
    abbrev pub row_of_game : ℕ → AnyGame DM SM → Row
    row_of_game id (draughts g) = game_row rules.draughts (terms_at (place events g.event)) id g
    row_of_game id (shogi g) = game_row rules.shogi (terms_at (place events g.event)) id g

    -- the rows of `moves` of the game with this id
    abbrev pub rows_of_moves : ℕ → AnyGame DM SM → List Row
    rows_of_moves id (draughts g) = move_rows rules.draughts (terms_at (place events g.event)) id g
    rows_of_moves id (shogi g) = move_rows rules.shogi (terms_at (place events g.event)) id g

  -- The rows of each table, by the number of its tree. Ids count from 1.
  abbrev pub tables_of : State DM SM → Content
  tables_of s t =
      if t == tree_of Meta then meta_row (schema_number (version_of s)) s.last ∷ []
      else (if t == tree_of Members then numbered_from member_row 1 s.members
      else (if t == tree_of Events then numbered_from event_row 1 s.events
      else (if t == tree_of Challenges then map challenge_row s.challenges
      else (if t == tree_of Moves then gathered_from (rows_of_moves s.events) 1 s.games
      else (if t == tree_of Games then numbered_from (row_of_game s.events) 1 s.games
      else (if t == tree_of Seen then gathered_from rows_of_seen 1 s.games
      else (if t == tree_of Scores then scores_in rules s.games
      else (if t == tree_of EventRules then numbered_from rule_row 1 s.events
      else (if t == tree_of Keys then gathered_from rows_of_keys 1 s.members
      else (if t == tree_of Rulings then gathered_from rows_of_rulings 1 s.games
      else (if t == tree_of Closings then gathered_from rows_of_closing 1 s.events
      else [])))))))))))
