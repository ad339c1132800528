-- Square indices agree with files and ranks. No promise of the program rests on these definitions.
use Rattle.std.specs.Prelude.{◌≡◌, ◌<◌, ℕ}
use Rattle.squares.specs.ShogiGeometry.{file_of, rank_of, shogi_number}
use Rattle.squares.specs.internal.ShogiGeometry.{OnShogiBoard}

-- An index from 0 to 80 gives a file and a rank, which give the index back.
abbrev pub NumbersGiveSquares : Type 0
NumbersGiveSquares = (n : ℕ) → n < 81 → OnShogiBoard (file_of n) (rank_of n)
    × (shogi_number (file_of n) (rank_of n) ≡ n)

-- A file and a rank give an index from 0 to 80, which gives them back.
abbrev pub SquaresGiveNumbers : Type 0
SquaresGiveNumbers =
    (file rank : ℕ) → OnShogiBoard file rank → (shogi_number file rank < 81) × (file_of (shogi_number file rank) ≡ file)
    × (rank_of (shogi_number file rank) ≡ rank)
