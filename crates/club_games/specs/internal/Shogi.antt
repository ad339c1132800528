-- Shogi as an instance of GameRules. No promise of the program rests on these definitions.
use Rattle.std.specs.Prelude.{ℕ, List}
use Rattle.squares.specs.ShogiSets.{ShogiPosition}
use Rattle.sfen.specs.internal.SfenGrammar.{IsSfenText}

-- the text is the SFEN of the position, with any move number
abbrev pub IsPositionText : List ℕ → ShogiPosition → Type 0
IsPositionText text p = (number : ℕ) × IsSfenText text p number
