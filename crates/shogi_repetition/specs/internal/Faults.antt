-- Legal shogi histories, and the faults of the others. No promise of the program rests on these definitions.
use Rattle.std.specs.Prelude.{ℕ, List}
use Rattle.game_history.specs.declared.faults.LineFault.{LineFault}
use Rattle.game_history.specs.Faults as lines
use Rattle.game_history.specs.internal.Faults as internal_lines
use Rattle.squares.specs.declared.shogi.moves.SMove.{SMove}
use Rattle.squares.specs.ShogiSets.{ShogiPosition}
use Rattle.shogi_moves.specs.declared.checking.Illegal.{Illegal}
use Rattle.shogi_repetition.specs.Faults.{shogi_lines}

abbrev pub GoesOn : ShogiPosition → List SMove → ℕ → Type 0
GoesOn = lines.GoesOn shogi_lines

abbrev pub HasFault : ShogiPosition → List SMove → LineFault Illegal → Type 0
HasFault = internal_lines.HasFault shogi_lines
