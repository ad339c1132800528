-- The end of a line of shogi is the computed one. No promise of the program rests on these definitions.
use Rattle.std.proofs.Common.{◌≡◌, List, Option}
use Rattle.squares.specs.declared.shogi.moves.SMove.{SMove}
use Rattle.squares.specs.ShogiSets.{ShogiPosition}
use Rattle.shogi_repetition.specs.declared.ends.SEnd.{SEnd}
use Rattle.shogi_repetition.specs.internal.Computed.{end_of}
use Rattle.shogi_repetition.specs.Ends.{EndsSo}
use Rattle.shogi_repetition.proofs.Proved.{one-end, end_of-is}

-- the end of a line is the computed one
pub end-computed : (start : ShogiPosition) (ms : List SMove) (end : Option SEnd) → EndsSo start ms end
    → end ≡ end_of start ms
end-computed start ms end h = one-end start ms end (end_of start ms) h (end_of-is start ms)
