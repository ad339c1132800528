-- The ends of a game of shogi. Positions are the same if board, hands and side to move are.
use Rattle.std.specs.Prelude.{◌≡◌, ◌<◌, ◌≤◌, ◌≢◌, ℕ, ◌+◌, Bool, true, false, Option, Some, None, List, length}
use Rattle.game_history.specs.Line as line
use Rattle.squares.specs.declared.sides.Side.{Side}
use Rattle.squares.specs.declared.sides.Side.TheVariants.{First, Second}
use Rattle.squares.specs.declared.sides.Score.{Score}
use Rattle.squares.specs.declared.sides.Score.TheVariants.{Draw}
use Rattle.squares.specs.declared.shogi.moves.SMove.{SMove}
use Rattle.squares.specs.Sides.{other, loses}
use Rattle.squares.specs.ShogiSets.{ShogiPosition}
use Rattle.shogi_moves.specs.Reach.{KingAttacked}
use Rattle.shogi_moves.specs.Rules.{HasMove, play}
use Rattle.shogi_moves.proofs.Proved.{attack-answer, move-answer}
use Rattle.shogi_repetition.specs.declared.ends.SEnd.{SEnd}
use Rattle.shogi_repetition.specs.declared.ends.SEnd.TheVariants.{NoMove, PerpetualCheck, Fourfold, PlyLimit}
use Rattle.shogi_repetition.specs.Line.{last_position, position_after}

-- Whether the side to move has a legal move: the Boolean that is true exactly if it has one.
abbrev pub can_move : ShogiPosition → Bool
can_move p = (move-answer p).value

-- Whether the side to move is in check: the Boolean that is true exactly if its king is attacked.
abbrev pub is_in_check : ShogiPosition → Bool
is_in_check p = (attack-answer p.board p.turn).value

-- The position after k plies is the last position.
abbrev pub StandsAfter : ShogiPosition → List SMove → ℕ → Type 0
StandsAfter start ms k = position_after start ms k ≡ last_position start ms

-- The last position occurred at least three times before.
pub record StandsFourTimes (start : ShogiPosition) (ms : List SMove) : Type 0 where
  pub first : ℕ
  pub second : ℕ
  pub third : ℕ
  pub second_later : first < second
  pub third_later : second < third
  pub last_later : third < length ms
  pub at_first : StandsAfter start ms first
  pub at_second : StandsAfter start ms second
  pub at_third : StandsAfter start ms third

-- The last position occurs for the first time after f plies.
abbrev pub FirstOccurs : ShogiPosition → List SMove → ℕ → Type 0
FirstOccurs = line.FirstOccurs play

-- The side to move is in check.
abbrev pub InCheck : ShogiPosition → Type 0
InCheck p = KingAttacked p.board p.turn

-- Each move of the side after f plies gave check.
abbrev pub GaveCheckThroughout : ShogiPosition → List SMove → Side → ℕ → Type 0
GaveCheckThroughout start ms side f =
    (k : ℕ) → f ≤ k → k < length ms → (position_after start ms k).turn ≡ side
    → InCheck (position_after start ms (k + 1))

-- Since the first occurrence of the last position, the side gave check throughout and the other side did not.
pub record ChecksAlone (start : ShogiPosition) (ms : List SMove) (side : Side) : Type 0 where
  pub since : ℕ
  pub first : FirstOccurs start ms since
  pub checks : GaveCheckThroughout start ms side since
  pub alone : GaveCheckThroughout start ms (other side) since → ⊥

-- The end of a history, if its last ply ends it. First comes the lack of a legal move, then the fourth occurrence of
-- the position, with or without perpetual check of one side. Last comes the limit of 600 plies.
abbrev pub EndsSo : ShogiPosition → List SMove → Option SEnd → Type 0
EndsSo start ms (Some NoMove) = HasMove (last_position start ms) → ⊥
EndsSo start ms (Some (PerpetualCheck side)) = HasMove (last_position start ms) × StandsFourTimes start ms
    × ChecksAlone start ms side
EndsSo start ms (Some Fourfold) = HasMove (last_position start ms) × StandsFourTimes start ms
    × ((side : Side) → ChecksAlone start ms side → ⊥)
EndsSo start ms (Some PlyLimit) = HasMove (last_position start ms) × (StandsFourTimes start ms → ⊥) × (length ms ≡ 600)
EndsSo start ms None = HasMove (last_position start ms) × (StandsFourTimes start ms → ⊥) × (length ms ≢ 600)

-- The end of a fourth occurrence, by which sides gave check throughout.
abbrev pub end_by_checks : Bool → Bool → SEnd
end_by_checks true false = PerpetualCheck First
end_by_checks false true = PerpetualCheck Second
end_by_checks true true = Fourfold
end_by_checks false false = Fourfold

-- The score of an end, by the side to move after it: a side without a move or with perpetual check loses, the rest are
-- draws.
abbrev pub outcome_of : SEnd → Side → Score
outcome_of NoMove turn = loses turn
outcome_of (PerpetualCheck side) turn = loses side
outcome_of Fourfold turn = Draw
outcome_of PlyLimit turn = Draw
