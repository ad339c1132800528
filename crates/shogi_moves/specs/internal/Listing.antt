-- The move list: steps by start, end and not promoting first; then drops by kind and square. No promise of the program
-- rests on these definitions.
use Rattle.std.specs.Prelude.{ℕ, Bool, true, false, if◌then◌else◌, List, [], ◌∷◌, ◌++◌}
use Rattle.std.specs.List.{flat_map}
use Rattle.squares.specs.declared.shogi.piece.HandKind.{HandKind}
use Rattle.squares.specs.declared.shogi.moves.SMove.{SMove}
use Rattle.squares.specs.declared.shogi.moves.SMove.TheVariants.{Step, Drop}
use Rattle.shogi_moves.specs.Search.{all_squares}
use Rattle.shogi_moves.specs.Computed.{all_kinds}

-- The move alone, if it passes the test.
unfoldable pub if_passes : (SMove → Bool) → SMove → List SMove
if_passes test m = if test m then m ∷ [] else []

-- The moves that pass a test, in order.
unfoldable pub steps_between : (SMove → Bool) → ℕ → ℕ → List SMove
steps_between test from to = if_passes test (Step from to false) ++ if_passes test (Step from to true)

unfoldable pub steps_from : (SMove → Bool) → ℕ → List SMove
steps_from test from = flat_map (steps_between test from) all_squares

unfoldable pub all_steps : (SMove → Bool) → List SMove
all_steps test = flat_map (steps_from test) all_squares

unfoldable pub drops_on : (SMove → Bool) → HandKind → ℕ → List SMove
drops_on test kind to = if_passes test (Drop kind to)

unfoldable pub drops_of : (SMove → Bool) → HandKind → List SMove
drops_of test kind = flat_map (drops_on test kind) all_squares

unfoldable pub all_drops : (SMove → Bool) → List SMove
all_drops test = flat_map (drops_of test) all_kinds

unfoldable pub all_moves : (SMove → Bool) → List SMove
all_moves test = all_steps test ++ all_drops test
