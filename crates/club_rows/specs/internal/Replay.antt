-- Properties of a game that is replayed from its rows. No promise of the program rests on these definitions.
use Rattle.std.specs.Prelude.{◌==◌, if◌then◌else◌, [], ◌∷◌}
use Rattle.std.specs.Prelude.{◌≡◌, ◌≤◌, ◌<◌, ◌+◌, ◌-◌, ◌*◌, ◌^◌, ℕ, pos, Bool, List, take, length, string_bytes, None}
use Rattle.std.specs.Prelude.{Ok}
use Rattle.squares.specs.declared.sides.Side.{Side}
use Rattle.squares.specs.declared.sides.Side.TheVariants.{First, Second}
use Rattle.club_rules.specs.GameRules.{GameRules}
use Rattle.club_rules.specs.Line.{IsPlayedLine, line_track, position_after}
use Rattle.club_requests.specs.declared.rulings.Ruling.{Ruling}
use Rattle.club_requests.specs.declared.rulings.Ruling.TheVariants.{Grant}
use Rattle.club_requests.specs.Limits.{last_moment}
use Rattle.club_core.specs.Events.{Terms}
use Rattle.club_core.specs.Game.{Entry, Game, Clocks, clocks_of, moves_of, left_after, left_of, last_position, rule_end}
use Rattle.club_core.specs.Game.{turn_of}
use Rattle.club_core.specs.Rulings.{GivenRuling}
use Rattle.store_tables.specs.Cells.{move_cells}
use Rattle.store_tables.specs.declared.rows.MoveRow.{MoveRow}
use Rattle.club_rows.specs.Tables.{entry_row}
use Rattle.club_rows.specs.internal.Tally.{IsTallyOf, HasStood}
use Rattle.club_rows.specs.declared.replay.Terms as given
use Rattle.club_rows.specs.declared.replay.Replayed.{Replayed}
use Rattle.club_rows.specs.Replay.{IsPlayedAs}

-- the remaining seconds of a side
abbrev pub left_in : {R P M E T : Type 0} → Replayed R P M E T → Side → ℕ
left_in game First = game.left_first
left_in game Second = game.left_second

-- the track and the repetition counts are those of the line
pub record IsCounted {R P M E T : Type 0} (rules : GameRules P M E T) (game : Replayed R P M E T) : Type 0 where
  pub track : game.track ≡ line_track rules rules.start game.line.items
  pub tally : IsTallyOf rules game.line.items game.tally
  pub stood : HasStood rules game.line.items (position_after rules rules.start game.line.items) game.stood

-- the line is legal, and has this position and number of plies
pub record IsReplayed {R P M E T : Type 0} (rules : GameRules P M E T) (plies : ℕ) (game : Replayed R P M E T) : Type 0
  where
    pub line : IsPlayedLine rules rules.start game.line.items
    pub position : game.position ≡ position_after rules rules.start game.line.items
    pub counted : IsCounted rules game
    pub plies_are : length game.line.items ≡ plies

abbrev pub terms_given : given.Terms → Terms
terms_given t = record { budget = t.budget; increment = t.increment; declares = t.declares }

abbrev pub terms_with : ℕ → ℕ → Bool → Terms
terms_with budget increment declares = record { budget = budget; increment = increment; declares = declares }

abbrev pub clocks_replayed : {R P M E T : Type 0} → Replayed R P M E T → Clocks
clocks_replayed r = record { left_first = r.left_first; left_second = r.left_second; since = r.since }

-- the replayed state is that of this game with these clocks, as far as its moves determine it
pub record Replays {R P M E T : Type 0} (rules : GameRules P M E T) (game : Game M) (clocks : Clocks)
    (replayed : Replayed R P M E T) : Type 0 where
  pub line : replayed.line.items ≡ moves_of game
  pub position : replayed.position ≡ last_position rules game
  pub clocks_are : clocks_replayed replayed ≡ clocks

-- the seconds that a ruling grants to a side
abbrev pub granted_to : Side → Ruling → ℕ
granted_to First (Grant First seconds) = seconds
granted_to Second (Grant Second seconds) = seconds
granted_to _ _ = 0

-- the seconds that a ruling grants to a side after this many plies
abbrev pub granted_by : Side → ℕ → GivenRuling → ℕ
granted_by side plies r = if r.plies == plies then granted_to side r.ruling else 0

-- the seconds that rulings grant to a side after this many plies
abbrev pub grants_to : Side → ℕ → List GivenRuling → ℕ
grants_to side plies [] = 0
grants_to side plies (r ∷ rs) = granted_by side plies r + grants_to side plies rs

-- more seconds than a side can have left after this many plies: each adds at most an increment and 99 grants
abbrev pub most_left : ℕ → ℕ
most_left plies = 31536000 + 3124656000 * (plies + 1)

-- the sides have no more seconds left than possible after this many plies
pub record HasLeft {R P M E T : Type 0} (plies : ℕ) (game : Replayed R P M E T) : Type 0 where
  pub first : game.left_first ≤ most_left plies
  pub second : game.left_second ≤ most_left plies

-- the clocks leave room for a move and for rulings
pub record HasRoom (clocks : Clocks) : Type 0 where
  pub first : clocks.left_first < 2 ^ 41
  pub second : clocks.left_second < 2 ^ 41

-- the move is in time, and the row has its timestamp and the remaining seconds
pub record TakesTime {R P M E T : Type 0} (game : Replayed R P M E T) (turn : Side) (increment : ℕ) (row : MoveRow)
    (moment after : ℕ) : Type 0 where
  pub last : moment ≤ last_moment
  pub later : game.since ≤ moment
  pub in_time : moment - game.since ≤ left_in game turn
  pub left : after ≡ left_after (left_in game turn) increment (moment - game.since)
  pub moment_is : row.moment ≡ pos moment
  pub left_is : row.left ≡ pos after

-- The move is a legal next move with this timestamp and remaining time, and the row has its values.
pub record IsNext {R P M E T : Type 0} (rules : GameRules P M E T) (increment id : ℕ) (game : Replayed R P M E T)
    (stored : MoveRow) (made : M) (moment left : ℕ) : Type 0 where
  pub running : rules.judge rules.start game.line.items ≡ None
  pub legal : rules.check game.position made ≡ Ok tt
  pub time : TakesTime game (rules.turn game.position) increment stored moment left
  pub game_is : stored.game ≡ pos id
  pub ply_is : stored.ply ≡ pos (length game.line.items + 1)
  pub text_is : string_bytes stored.text ≡ rules.write_move game.position made
  pub position_is : string_bytes stored.position ≡ rules.write_position (rules.play game.position made)

-- the row is that of a legal next entry with a timestamp in range
pub record Follows {P M E T : Type 0} (rules : GameRules P M E T) (terms : Terms) (id : ℕ) (game : Game M)
    (stored : MoveRow) (e : Entry M) : Type 0 where
  pub running : rule_end rules game ≡ None
  pub legal : rules.check (last_position rules game) e.made ≡ Ok tt
  pub later : (clocks_of game terms).since ≤ e.moment
  pub in_time : e.moment - (clocks_of game terms).since ≤ left_of (turn_of rules game) (clocks_of game terms)
  pub moment : e.moment ≤ last_moment
  pub row : move_cells stored ≡ entry_row rules terms id game e

-- a game with these rulings, this start and these entries
abbrev pub game_from : {M : Type 0} → List GivenRuling → ℕ → List (Entry M) → Game M
game_from rulings start entries =
    record {
      key = None;
      event = 0;
      first = 0;
      second = 1;
      start = start;
      entries = entries;
      offer = None;
      outside = None;
      rulings = rulings;
    }

-- the replayed state is that of the game with these rulings, this start and these entries
abbrev pub ReplaysFrom : {R P M E T : Type 0} → GameRules P M E T → Terms → List GivenRuling → ℕ → List (Entry M)
    → Replayed R P M E T → Type 0
ReplaysFrom rules terms rulings start entries replayed =
    Replays rules (game_from rulings start entries) (clocks_of (game_from rulings start entries) terms) replayed

-- The first rows were replayed with these rulings: they are those of a game, and its entries are unique.
pub record WasReplayed {R P M E T : Type 0} (rules : GameRules P M E T) (terms : Terms) (id : ℕ)
    (rulings : List GivenRuling) (from : ℕ) (rows : List MoveRow) (plies : ℕ) (replayed : Replayed R P M E T) : Type 0
  where
    pub entries : List (Entry M)
    pub replays : ReplaysFrom rules terms rulings from entries replayed
    pub played : IsPlayedAs rules terms id from (take plies rows) (game_from rulings from entries)
    pub count : length entries ≡ plies
    pub only : (game : Game M) → game.rulings ≡ rulings → IsPlayedAs rules terms id from rows game
        → take plies game.entries ≡ entries
