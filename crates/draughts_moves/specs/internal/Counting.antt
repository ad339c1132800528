-- The number of legal moves, and the quiet moves of kings and of men. No promise of the program rests on these
-- definitions.
use Rattle.std.specs.Prelude.{◌≡◌, ◌↔◌, ℕ, Bool, if◌then◌else◌, List, length, count_by, Contains}
use Rattle.std.specs.List.{range_with_len, sum_by}
use Rattle.std.specs.List.Sorted.{IsStrictlySortedBy}
use Rattle.std.specs.FinMap as map
use Rattle.squares.specs.declared.draughts.moves.DMove.{DMove}
use Rattle.squares.specs.DraughtsBoard.{Position}
use Rattle.squares.specs.internal.DraughtsKept.{is_king}
use Rattle.draughts_moves.specs.Legal.{Legal}
use Rattle.draughts_moves.specs.Listing.{move_cmp}
use Rattle.draughts_moves.specs.internal.Listing.{quiet_in_order}

-- The number of legal moves: the length of a list that has each of them once and no others.
pub record IsCountOfLegal (p : Position) (count : ℕ) : Type 0 where
  pub moves : List DMove
  pub once : IsStrictlySortedBy move_cmp moves
  pub members : (m : DMove) → Contains moves m ↔ Legal p m
  pub counted : count ≡ length moves

-- The number of squares that pass a test.
unfoldable pub count_squares : (ℕ → Bool) → ℕ
count_squares test = count_by test (range_with_len 1 50)

-- The sum of f over all squares.
unfoldable pub sum_squares : (ℕ → ℕ) → ℕ
sum_squares f = sum_by f (range_with_len 1 50)

-- The number of quiet moves of the piece on x.
unfoldable pub quiet_count : Position → ℕ → ℕ
quiet_count p x = length (quiet_in_order p x)

-- The number of quiet moves of the king on x, 0 if there is none.
unfoldable pub king_count : Position → ℕ → ℕ
king_count p x = if is_king (map.get p.board x) then quiet_count p x else 0

-- The number of quiet moves of the man on x, 0 if there is none.
unfoldable pub man_count : Position → ℕ → ℕ
man_count p x = if is_king (map.get p.board x) then 0 else quiet_count p x
