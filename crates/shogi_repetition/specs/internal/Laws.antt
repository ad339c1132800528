-- Properties of the ends of histories. No promise of the program rests on these definitions.
use Rattle.std.specs.Prelude.{◌≡◌, ◌↔◌, Option, List}
use Rattle.squares.specs.declared.shogi.moves.SMove.{SMove}
use Rattle.squares.specs.ShogiSets.{ShogiPosition}
use Rattle.shogi_repetition.specs.declared.ends.SEnd.{SEnd}
use Rattle.shogi_repetition.specs.Ends.{EndsSo}
use Rattle.shogi_repetition.specs.internal.Computed.{end_of}

-- Each history has an end or goes on.
abbrev pub EachLineHasAnEnd : Type 0
EachLineHasAnEnd = (start : ShogiPosition) (ms : List SMove) → (end : Option SEnd) × EndsSo start ms end

-- No history has two ends, or an end while it goes on.
abbrev pub NoLineHasTwoEnds : Type 0
NoLineHasTwoEnds = (start : ShogiPosition) (ms : List SMove) (one two : Option SEnd) → EndsSo start ms one
    → EndsSo start ms two → one ≡ two

-- The end is the computed one.
abbrev pub EndsAreComputed : Type 0
EndsAreComputed = (start : ShogiPosition) (ms : List SMove) (end : Option SEnd)
    → EndsSo start ms end ↔ (end ≡ end_of start ms)
