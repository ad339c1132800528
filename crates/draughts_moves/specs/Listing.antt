-- The computed legal moves, ordered by start, end and the ascending list of captured squares.
use Rattle.std.specs.Prelude.{ℕ, ◌==◌, if◌then◌else◌, List, [], ◌∷◌, map}
use Rattle.std.specs.Ordering.{nat_cmp}
use Rattle.std.specs.List.{flat_map, range_with_len}
use Rattle.std.specs.Option.{option_map_or}
use Rattle.std.specs.Cmp.Lexicographic.{slice_cmp}
use Rattle.std.specs.declared.cmp.Ordering.{Ordering}
use Rattle.std.specs.FinSet as set
use Rattle.std.specs.FinMap as finite_map
use Rattle.squares.specs.DraughtsBoard.{Position}
use Rattle.squares.specs.DraughtsSets.{Squares, ascending}
use Rattle.squares.specs.declared.draughts.moves.DMove.{DMove}
use Rattle.draughts_moves.specs.Capture.{without}
use Rattle.draughts_moves.specs.Search.{own_at, routes_of, steps}

-- The sort key of a move.
abbrev pub key_of : DMove → List ℕ
key_of m = m.from ∷ m.to ∷ ascending m.taken

-- The order of two moves in the list.
abbrev pub move_cmp : DMove → DMove → Ordering
move_cmp a b = slice_cmp nat_cmp (key_of a) (key_of b)

-- The capture from x with these captured pieces and this end.
abbrev pub move_to : ℕ → Squares × ℕ → DMove
move_to x e = record { from = x; to = e.1; taken = e.0 }

-- The captures of n jumps of the piece on x.
unfoldable pub captures_at : Position → ℕ → ℕ → List DMove
captures_at p n x = option_map_or (λ q. map (move_to x) (routes_of (without p.board x) q n set.empty x)) (own_at p x) []

-- The quiet move from x to y.
abbrev pub step_to : ℕ → ℕ → DMove
step_to x y = record { from = x; to = y; taken = set.empty }

-- The quiet moves of the piece on x.
unfoldable pub quiet_at : Position → ℕ → List DMove
quiet_at p x = option_map_or (λ q. map (step_to x) (steps (finite_map.get p.board) q x)) (own_at p x) []

-- The moves of the piece on x, if the longest capture takes n pieces.
unfoldable pub moves_at : Position → ℕ → ℕ → List DMove
moves_at p n x = if n == 0 then quiet_at p x else captures_at p n x

-- The moves of all pieces, if the longest capture takes n pieces.
unfoldable pub moves : Position → ℕ → List DMove
moves p n = flat_map (moves_at p n) (range_with_len 1 50)
