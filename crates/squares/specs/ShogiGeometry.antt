-- Geometry of the shogi board: files, ranks, and the index by file, then rank.
use Rattle.std.specs.Prelude.{ℕ, ◌+◌, ◌-◌, ◌*◌, ◌/◌, ◌%◌}

-- The index of the square at a file and a rank, from 0.
abbrev pub shogi_number : ℕ → ℕ → ℕ
shogi_number file rank = 9 * (file - 1) + (rank - 1)

-- The file of a square, from 1 to 9.
abbrev pub file_of : ℕ → ℕ
file_of n = n / 9 + 1

-- The rank of a square, from 1 to 9.
abbrev pub rank_of : ℕ → ℕ
rank_of n = n % 9 + 1
