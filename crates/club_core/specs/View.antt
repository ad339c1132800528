-- When the stored rows represent a game of the specification, and when a decision is the outcome of its transition.
use Rattle.std.specs.Prelude.{◌≡◌, ℕ, ◌+◌, ◌-◌, ◌<◌, ◌≤◌, ◌^◌, length, Option, Some, None, Ok, string_bytes}
use Rattle.std.specs.Prelude.{IfSome}
use Rattle.std.specs.Option.{option_map}
use Rattle.club_rules.specs.GameRules.{GameRules}
use Rattle.club_rules.specs.Line.{line_track}
use Rattle.club_core.specs.declared.rows.GameRow.{GameRow}
use Rattle.club_core.specs.declared.rows.GameView.{GameView}
use Rattle.club_core.specs.declared.rows.Asked.{Asked}
use Rattle.club_requests.specs.Limits.{most_plies, longest_grant}
use Rattle.club_core.specs.Events.{Terms}
use Rattle.club_core.specs.Game.{Game, Clocks, clocks_of, clocks_then, moves_of, last_position, end_of, result_of}
use Rattle.club_core.specs.Game.{left_of, side_after, game_at}
use Rattle.club_core.specs.Step.{move_at}

-- the clocks that a row holds
abbrev pub clocks_in : {E : Type 0} → GameRow E → Clocks
clocks_in row = record { left_first = row.left_first; left_second = row.left_second; since = row.since }

-- the track after the game's moves
abbrev pub track_of_game : {P M E T : Type 0} → GameRules P M E T → Game M → T
track_of_game rules game = line_track rules rules.start (moves_of game)

-- the row holds the values that follow from the game
pub record IsRowOf {P M E T : Type 0} (rules : GameRules P M E T) (terms : Terms) (game : Game M)
    (row : GameRow E) : Type 0 where
  pub key : option_map (λ k. string_bytes k) row.key ≡ game.key
  pub event : row.event ≡ game.event
  pub first : row.first ≡ game.first
  pub second : row.second ≡ game.second
  pub start : row.start ≡ game.start
  pub plies : row.plies ≡ length game.entries
  pub clocks : clocks_in row ≡ clocks_of game terms
  pub track : row.track ≡ rules.track_numbers (track_of_game rules game)
  pub offer : row.offer ≡ game.offer
  pub outside : row.outside ≡ game.outside
  pub end : row.end ≡ end_of rules game
  pub result : row.result ≡ result_of rules game
  pub position : string_bytes row.position ≡ rules.write_position (last_position rules game)

-- the data holds the move `m` of this ply, or nothing if none was played
abbrev pub IsAsked : {R P M E T : Type 0} → GameRules P M E T → Terms → Game M → ℕ → Option M → Option (Asked R P M E T)
    → Type 0
IsAsked rules terms game ply None None = Unit {0}
IsAsked rules terms game ply (Some m) None = ⊥
IsAsked rules terms game ply None (Some asked) = ⊥
IsAsked rules terms game ply (Some m) (Some asked) =
    (asked.made ≡ m)
    × (asked.left ≡ left_of (side_after (ply - 1)) (clocks_then (game_at game ply) terms))
    × (asked.before ≡ last_position rules (game_at game (ply - 1)))
    × (asked.ply ≡ ply)

-- the event's terms, as the view holds them
abbrev pub terms_of : {R P M E T : Type 0} → GameView R P M E T → Terms
terms_of view = record { budget = view.budget; increment = view.increment; declares = view.declares }

-- the view represents the game
pub record Shows {R P M E T : Type 0} (rules : GameRules P M E T) (game : Game M) (view : GameView R P M E T) : Type 0
  where
    pub row : IsRowOf rules (terms_of view) game view.row
    pub position : view.position ≡ last_position rules game
    pub track : view.track ≡ track_of_game rules game

-- the view holds the move at this ply, if one was played
abbrev pub ShowsPly : {R P M E T : Type 0} → GameRules P M E T → Game M → ℕ → GameView R P M E T → Type 0
ShowsPly rules game ply view = IsAsked rules (terms_of view) game ply (move_at game ply) view.asked

-- both numbers of a track can be incremented without overflow of 32 bits
pub record CanGrow (numbers : ℕ × ℕ) : Type 0 where
  pub first : numbers.0 < 4294967295
  pub second : numbers.1 < 4294967295

-- the view's values are consistent with each other, whichever game it represents
pub record IsSound {R P M E T : Type 0} (rules : GameRules P M E T) (view : GameView R P M E T) : Type 0 where
  pub track : CanGrow (rules.track_numbers view.track)
  pub asked : IfSome view.asked (λ a. rules.check a.before a.made ≡ Ok tt)
  pub plies : view.row.plies ≤ most_plies
  pub room_first : view.row.left_first + view.increment < 2 ^ 64
  pub room_second : view.row.left_second + view.increment < 2 ^ 64
  pub grant_first : view.row.left_first + longest_grant < 2 ^ 64
  pub grant_second : view.row.left_second + longest_grant < 2 ^ 64
