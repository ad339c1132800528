-- The rules of a game as functions of its positions P, moves M, ends E and tracks T (summaries of lines).
use Rattle.std.specs.Prelude.{List, ℕ, Option, Result, Bool}
use Rattle.std.specs.declared.cmp.Ordering.{Ordering}
use Rattle.squares.specs.declared.sides.Side.{Side}
use Rattle.squares.specs.declared.sides.Score.{Score}
use Rattle.club_rules.specs.declared.names.EndName.{EndName}
use Rattle.club_rules.specs.declared.refusals.MoveRefusal.{MoveRefusal}

-- the number of plies after which every game has ended
abbrev pub ply_limit : ℕ
ply_limit = 600

-- the rules of a game, with the texts of its moves and positions
pub record GameRules (P M E T : Type 0) : Type 0 where
  pub start : P
  pub turn : P → Side
  -- Ok if the move is legal, else the first refusal that holds
  pub check : P → M → Result (Unit {0}) MoveRefusal
  -- the order in which legal moves are listed
  pub move_order : M → M → Ordering
  pub same : M → M → Bool
  pub same_position : P → P → Bool
  pub play : P → M → P
  pub read_move : P → List ℕ → Result M MoveRefusal
  pub write_move : P → M → List ℕ
  pub write_position : P → List ℕ
  -- the end that the rules give to a line
  pub judge : P → List M → Option E
  -- the track of a line without moves
  pub track_start : P → T
  -- the track after one more move, made in the first position and leading to the second
  pub track_next : T → P → M → P → T
  -- the end by a track, the last position, the number of plies, the repetition count of that position, and the ply
  -- after which it first occurred
  pub track_end : T → P → ℕ → ℕ → ℕ → Option E
  -- the two numbers by which a track is stored
  pub track_numbers : T → ℕ × ℕ
  pub track_of : ℕ → ℕ → T
  -- the score of an end, by the side to move after the line
  pub outcome : E → Side → Score
  pub end_name : E → EndName
  pub has_draw_offers : Bool
  -- whether the side to move may declare a win
  pub can_declare : P → Bool
