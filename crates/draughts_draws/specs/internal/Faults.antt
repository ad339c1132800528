-- Legal draughts histories, and the faults of the others. No promise of the program rests on these definitions.
use Rattle.std.specs.Prelude.{ℕ, List}
use Rattle.game_history.specs.Faults as lines
use Rattle.game_history.specs.internal.Faults as internal_lines
use Rattle.squares.specs.declared.draughts.moves.DMove.{DMove}
use Rattle.squares.specs.DraughtsBoard.{Position}
use Rattle.draughts_moves.specs.declared.checking.Illegal.{Illegal}
use Rattle.game_history.specs.declared.faults.LineFault.{LineFault}
use Rattle.draughts_draws.specs.Faults.{draughts_lines}

abbrev pub GoesOn : Position → List DMove → ℕ → Type 0
GoesOn = lines.GoesOn draughts_lines

abbrev pub HasFault : Position → List DMove → LineFault Illegal → Type 0
HasFault = internal_lines.HasFault draughts_lines
