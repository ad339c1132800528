-- The state of a replay. No promise of the program rests on these definitions.
use Rattle.std.specs.Prelude.{◌≡◌, ◌⊎◌, ◌+◌, List, [], ◌∷◌, ◌++◌, Some, None, length}
use Rattle.squares.specs.declared.shogi.moves.SMove.{SMove}
use Rattle.squares.specs.ShogiOpening.{opening}
use Rattle.shogi_repetition.specs.Line.{last_position}
use Rattle.shogi_repetition.specs.internal.Counting.{Follows}
use Rattle.shogi_repetition.specs.Ends.{EndsSo}
use Rattle.shogi_repetition.specs.declared.ends.SEnd.{SEnd}
use Rattle.game_history.specs.declared.faults.LineFault.{LineFault}
use Rattle.game_history.specs.declared.faults.LineFault.TheVariants as line_fault
use Rattle.shogi_moves.specs.declared.checking.Illegal.{Illegal}
use Rattle.shogi_moves.specs.Rules.{FirstBroken}
use Rattle.csa.specs.declared.faults.CsaFault.{CsaFault}
use Rattle.csa.specs.declared.faults.CsaFault.TheVariants as fault
use Rattle.csa.specs.declared.statements.WrittenMove.{WrittenMove}
use Rattle.csa.specs.declared.statements.Statement.{Statement}
use Rattle.csa.specs.declared.replay.CsaReplay.{CsaReplay}
use Rattle.csa.specs.Moves.{Means, MeanAll}
use Rattle.csa.specs.Replays.{written_in, RefusesNext}

-- The position and the repetition marks of a replay are those of its moves.
pub record IsConsistent (replay : CsaReplay) : Type 0 where
  pub follows : Follows opening replay.moves.items replay.marks
  pub position : replay.position ≡ last_position opening replay.moves.items

-- the moves are extended by one that the written move denotes
pub record GrowsBy (w : WrittenMove) (old new : List SMove) : Type 0 where
  pub made : SMove
  pub grown : new ≡ old ++ made ∷ []
  pub means : Means (last_position opening old) w made

-- if written moves denote the old moves, then those with this statement denote the new ones
abbrev pub GrowsWith : Statement → List SMove → List SMove → Type 0
GrowsWith s old new = (ws : List WrittenMove) → MeanAll opening ws old → MeanAll opening (ws ++ written_in s) new

-- out of memory, or the written move is refused
abbrev pub RefusesWritten : List SMove → WrittenMove → CsaFault → Type 0
RefusesWritten ms w f = (f ≡ fault.Memory) ⊎ RefusesNext ms w f

-- out of memory, or the move of the statement is refused
abbrev pub RefusesIn : List SMove → Statement → CsaFault → Type 0
RefusesIn ms s f = (f ≡ fault.Memory) ⊎ ((w : WrittenMove) × (written_in s ≡ w ∷ []) × RefusesNext ms w f)

-- out of memory, or the move is refused: the game has ended, or the move is illegal
abbrev pub RefusesMade : List SMove → SMove → CsaFault → Type 0
RefusesMade ms m fault.Memory = Unit {0}
RefusesMade ms m (fault.AfterEnd ply) = (ply ≡ length ms + 1) × (end : SEnd) × EndsSo opening ms (Some end)
RefusesMade ms m (fault.Illegal ply cause) = (ply ≡ length ms + 1) × EndsSo opening ms None
    × FirstBroken (last_position opening ms) m cause
RefusesMade ms m _ = ⊥

abbrev pub fault_of : LineFault Illegal → CsaFault
fault_of line_fault.Memory = fault.Memory
fault_of (line_fault.Illegal ply cause) = fault.Illegal ply cause
fault_of (line_fault.AfterEnd ply) = fault.AfterEnd ply
