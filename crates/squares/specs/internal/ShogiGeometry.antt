-- Geometry of the shogi board: files, ranks, and the index by file, then rank. No promise of the program rests on these
-- definitions.
use Rattle.std.specs.Prelude.{ℕ, ◌≤◌}

-- Files and ranks are 1 to 9.
abbrev pub OnShogiBoard : ℕ → ℕ → Type 0
OnShogiBoard file rank = ((1 ≤ file) × (file ≤ 9)) × ((1 ≤ rank) × (rank ≤ 9))
