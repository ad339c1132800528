-- Offsets of the directions in a table of neighbours. No promise of the program rests on these definitions.
use Rattle.std.specs.Prelude.{ℕ}
use Rattle.squares.specs.declared.draughts.direction.Direction.{Direction}
use Rattle.squares.specs.declared.draughts.direction.Direction.TheVariants.{UpLeft, UpRight, DownLeft, DownRight}

abbrev pub place_of : Direction → ℕ
place_of UpLeft = 0
place_of UpRight = 50
place_of DownLeft = 100
place_of DownRight = 150
