-- The game of a record.
use Rattle.std.specs.Prelude.{◌≡◌, Bool, true, false, Option, None, List, [], ◌∷◌, Result, Ok, Err}
use Rattle.std.specs.List.{list_all}
use Rattle.squares.specs.declared.sides.Side.TheVariants.{First, Second}
use Rattle.squares.specs.declared.sides.Score.{Score}
use Rattle.squares.specs.declared.shogi.moves.SMove.{SMove}
use Rattle.squares.specs.ShogiOpening.{opening}
use Rattle.shogi_repetition.specs.declared.ends.SEnd.{SEnd}
use Rattle.shogi_repetition.specs.Line.{last_position}
use Rattle.shogi_repetition.specs.Ends.{EndsSo}
use Rattle.csa.specs.declared.end_words.EndWord.{EndWord}
use Rattle.csa.specs.declared.faults.CsaFault.{CsaFault}
use Rattle.csa.specs.declared.faults.CsaFault.TheVariants as fault
use Rattle.csa.specs.declared.lines.NumberedStatement.{NumberedStatement}
use Rattle.csa.specs.declared.statements.Statement.{Statement}
use Rattle.csa.specs.declared.statements.Statement.TheVariants as statement
use Rattle.csa.specs.Endings.{ending, says_declared}
use Rattle.csa.specs.Replays.{written_moves, AreMoves, RefusesMove}

-- whether a statement agrees with the even initial position, in which Black moves first
abbrev pub is_even : Statement → Bool
is_even (statement.Opening without_pieces) = without_pieces
is_even (statement.Row rank even) = even
is_even (statement.Pieces none) = none
is_even (statement.Turn First) = true
is_even (statement.Turn Second) = false
is_even _ = true

-- whether all statements of a record agree with the even initial position
abbrev pub begins_even : List NumberedStatement → Bool
begins_even record_is = list_all (λ placed. is_even placed.statement) record_is

-- the end of this statement, or else the end of the statements after it
abbrev pub end_or : Statement → Option EndWord → Option EndWord
end_or (statement.End word) after = word
end_or _ after = after

-- the end that a record states: None if there is none, or if its keyword is unknown
abbrev pub end_in : List NumberedStatement → Option EndWord
end_in [] = None
end_in (placed ∷ more) = end_or placed.statement (end_in more)

-- a record of a game from the even initial position, with these moves and this end by the rules
pub record Plays (placed : List NumberedStatement) (ms : List SMove) (end : Option SEnd) : Type 0 where
  pub even : begins_even placed ≡ true
  pub moves : AreMoves (written_moves placed) ms
  pub ends : EndsSo opening ms end

-- the score of a record with these moves
abbrev pub score_in : List NumberedStatement → List SMove → Option SEnd → Result Score CsaFault
score_in placed ms end = ending (end_in placed) (last_position opening ms) end

-- the record is that of a game with these moves and this score; `wins` is whether it ended by a declared win
pub record IsRecordWith (placed : List NumberedStatement) (ms : List SMove) (s : Score) (wins : Bool) : Type 0 where
  pub end : Option SEnd
  pub plays : Plays placed ms end
  pub score : score_in placed ms end ≡ Ok s
  pub declared : wins ≡ says_declared (end_in placed)

-- all moves of the record are legal, and its end has the fault
pub record EndFails (placed : List NumberedStatement) (f : CsaFault) : Type 0 where
  pub moves : List SMove
  pub end : Option SEnd
  pub plays : Plays placed moves end
  pub score : score_in placed moves end ≡ Err f

-- The faults of a record: another initial position, then a move, then the end.
abbrev pub RecordFails : List NumberedStatement → CsaFault → Type 0
RecordFails placed fault.Memory = Unit {0}
RecordFails placed fault.OtherOpening = begins_even placed ≡ false
RecordFails placed (fault.Illegal ply cause) = (begins_even placed ≡ true)
    × RefusesMove (written_moves placed) (fault.Illegal ply cause)
RecordFails placed (fault.AfterEnd ply) = (begins_even placed ≡ true)
    × RefusesMove (written_moves placed) (fault.AfterEnd ply)
RecordFails placed fault.Unfinished = EndFails placed fault.Unfinished
RecordFails placed fault.ResultDiffers = EndFails placed fault.ResultDiffers
RecordFails placed (fault.BadText line) = ⊥
RecordFails placed fault.Version = ⊥
