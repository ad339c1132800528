-- The computed legal moves, ordered by start, end and the ascending list of captured squares. No promise of the program
-- rests on these definitions.
use Rattle.std.specs.Prelude.{ℕ, List, map, filter}
use Rattle.std.specs.List.{flat_map, range_with_len}
use Rattle.squares.specs.DraughtsBoard.{Position}
use Rattle.squares.specs.declared.draughts.moves.DMove.{DMove}
use Rattle.draughts_moves.specs.internal.Search.{is_step}
use Rattle.draughts_moves.specs.Listing.{step_to}

-- The quiet moves of the piece on x, ordered by target square.
unfoldable pub quiet_in_order : Position → ℕ → List DMove
quiet_in_order p x = map (step_to x) (filter (is_step p x) (range_with_len 1 50))

-- The quiet moves of all pieces.
unfoldable pub quiet_list : Position → List DMove
quiet_list p = flat_map (quiet_in_order p) (range_with_len 1 50)
