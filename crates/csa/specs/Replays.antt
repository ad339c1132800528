-- The moves of a record from the initial position.
use Rattle.std.specs.Prelude.{◌≡◌, ◌⊎◌, ◌+◌, List, [], ◌∷◌, ◌++◌, Some, None, length}
use Rattle.squares.specs.declared.shogi.moves.SMove.{SMove}
use Rattle.squares.specs.ShogiSets.{ShogiPosition}
use Rattle.squares.specs.ShogiOpening.{opening}
use Rattle.shogi_moves.specs.declared.checking.Illegal.{Illegal}
use Rattle.shogi_moves.specs.declared.checking.Illegal.TheVariants as illegal
use Rattle.shogi_moves.specs.Rules.{FirstBroken}
use Rattle.shogi_repetition.specs.declared.ends.SEnd.{SEnd}
use Rattle.shogi_repetition.specs.Line.{last_position}
use Rattle.shogi_repetition.specs.Ends.{EndsSo}
use Rattle.shogi_repetition.specs.Faults.{IsPlayed}
use Rattle.csa.specs.declared.faults.CsaFault.{CsaFault}
use Rattle.csa.specs.declared.faults.CsaFault.TheVariants as fault
use Rattle.csa.specs.declared.statements.WrittenMove.{WrittenMove}
use Rattle.csa.specs.declared.statements.Statement.{Statement}
use Rattle.csa.specs.declared.statements.Statement.TheVariants as statement
use Rattle.csa.specs.declared.lines.NumberedStatement.{NumberedStatement}
use Rattle.csa.specs.Moves.{Means, MeanAll}

-- the written move of a statement, if it is a move
abbrev pub written_in : Statement → List WrittenMove
written_in (statement.Move w) = w ∷ []
written_in _ = []

-- the written moves of a record
abbrev pub written_moves : List NumberedStatement → List WrittenMove
written_moves [] = []
written_moves (placed ∷ more) = written_in placed.statement ++ written_moves more

-- The written moves denote these moves of a game from the initial position: each is legal, and none follows the end of
-- the game.
pub record AreMoves (ws : List WrittenMove) (ms : List SMove) : Type 0 where
  pub mean : MeanAll opening ws ms
  pub played : IsPlayed opening ms (length ms)

-- the written move denotes a move that is illegal for this reason first, or it denotes no move of the position
abbrev pub BreaksRule : ShogiPosition → WrittenMove → Illegal → Type 0
BreaksRule p w cause = ((m : SMove) × Means p w m × FirstBroken p m cause)
    ⊎ ((cause ≡ illegal.NoSuchMove) × ((m : SMove) → Means p w m → ⊥))

-- The next written move after these moves is refused: the game has ended, or the move is illegal.
abbrev pub RefusesNext : List SMove → WrittenMove → CsaFault → Type 0
RefusesNext ms w (fault.AfterEnd ply) = (ply ≡ length ms + 1) × (end : SEnd) × EndsSo opening ms (Some end)
RefusesNext ms w (fault.Illegal ply cause) = (ply ≡ length ms + 1) × EndsSo opening ms None
    × BreaksRule (last_position opening ms) w cause
RefusesNext ms w _ = ⊥

-- one of the written moves is refused, and those before it denote moves of a game
pub record RefusesMove (ws : List WrittenMove) (fault : CsaFault) : Type 0 where
  pub before : List WrittenMove
  pub refused : WrittenMove
  pub after : List WrittenMove
  pub parts : ws ≡ before ++ refused ∷ after
  pub moves : List SMove
  pub played : AreMoves before moves
  pub refuses : RefusesNext moves refused fault
