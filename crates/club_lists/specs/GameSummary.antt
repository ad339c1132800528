-- The summary of a game, without its moves.
use Rattle.std.specs.Prelude.{ℕ, ◌+◌, ◌-◌, ◌&&◌, Bool, not, is_some, nat_lt, List, ◌++◌, Option, Some, None, codes}
use Rattle.std.specs.Prelude.{false, option_and_then}
use Rattle.std.specs.Option.{option_map, option_map_or}
use Rattle.squares.specs.declared.sides.Side.{Side}
use Rattle.club_core.specs.Game.{Clocks, left_of}

-- name of the end and score, as text; a void game has no score
pub record Over : Type 0 where
  pub end : List ℕ
  pub result : Option (List ℕ)

-- the name of an end with the score behind it, if there is one
abbrev pub with_result : List ℕ → Option (List ℕ) → List ℕ
with_result end None = end
with_result end (Some result) = end ++ (codes " " ++ result)

-- `NAME RESULT`, or `NAME` for a void game
abbrev pub over_text : Over → List ℕ
over_text over = with_result over.end over.result

-- ids of the game, event and players; key if any; number of plies; side to move; clocks; side that offers a draw; end
-- if it is over
pub record GameSummary : Type 0 where
  pub id : ℕ
  pub event : ℕ
  pub first : ℕ
  pub second : ℕ
  pub key : Option (List ℕ)
  pub plies : ℕ
  pub turn : Side
  pub clocks : Clocks
  pub offer : Option Side
  pub over : Option Over

-- a running game, with the text of its last move and its position
pub record Running : Type 0 where
  pub told : GameSummary
  pub last : Option (List ℕ)
  pub position : List ℕ

-- seconds that the side to move had left after its last move
abbrev pub left_in : GameSummary → ℕ
left_in told = left_of told.turn told.clocks

-- last second in which a move is in time
abbrev pub deadline : GameSummary → ℕ
deadline told = told.clocks.since + left_in told

-- the game has ended
abbrev pub is_over : GameSummary → Bool
is_over told = is_some told.over

-- name of the end, if the game has ended
abbrev pub end_of : GameSummary → Option (List ℕ)
end_of told = option_map (λ over. over.end) told.over

-- scores of First and Second, if the game has ended and counts
abbrev pub result_of : GameSummary → Option (List ℕ)
result_of told = option_and_then (λ over. over.result) told.over

-- the game has ended and does not count
abbrev pub is_void : GameSummary → Bool
is_void told = option_map_or (λ over. not (is_some over.result)) told.over false

-- the game is running and its side to move has exceeded the time limit at this timestamp
abbrev pub is_late : ℕ → GameSummary → Bool
is_late moment told = not (is_over told) && nat_lt (left_in told) (moment - told.clocks.since)
