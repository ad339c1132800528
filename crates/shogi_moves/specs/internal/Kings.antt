-- Sets of the squares of kings. No promise of the program rests on these definitions.
use Rattle.std.specs.Prelude.{◌≡◌, ℕ}
use Rattle.std.specs.FinMap as map
use Rattle.std.specs.FinSet as set
use Rattle.masks.specs.Words.{Numbers}
use Rattle.squares.specs.declared.sides.Side.{Side}
use Rattle.squares.specs.ShogiBoard.{ShogiBoard}
use Rattle.squares.specs.internal.ShogiSets.{holds_king}

-- The set holds exactly the squares of the side's kings.
abbrev pub AreKings : ShogiBoard → Side → Numbers → Type 0
AreKings board side kings = (q : ℕ) → set.contains kings q ≡ holds_king side (map.get board q)
