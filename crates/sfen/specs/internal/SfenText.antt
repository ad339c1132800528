-- The written SFEN of a position. No promise of the program rests on these definitions.
use Rattle.std.specs.Prelude.{ℕ, List, ◌∷◌, ◌++◌}
use Rattle.std.specs.Fmt.{decimal}
use Rattle.squares.specs.ShogiSets.{ShogiPosition}
use Rattle.sfen.specs.SfenText.{position_text}

-- the text of a position with its move number
unfoldable pub sfen_text : ShogiPosition → ℕ → List ℕ
sfen_text p number = position_text p ++ (32 ∷ decimal number)
