-- The computed attacks of pieces.
use Rattle.std.specs.Prelude.{ℕ, List}
use Rattle.std.specs.List.{range_with_len}

-- The squares of the board in order.
unfoldable pub all_squares : List ℕ
all_squares = range_with_len 0 81
