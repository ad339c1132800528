-- The game of a record. No promise of the program rests on these definitions.
use Rattle.std.specs.Prelude.{List}
use Rattle.csa.specs.declared.lines.NumberedStatement.{NumberedStatement}
use Rattle.csa.specs.declared.game.CsaGame.{CsaGame}
use Rattle.csa.specs.Records.{IsRecordWith}

-- the record is that of the game
abbrev pub IsRecordOf : List NumberedStatement → CsaGame → Type 0
IsRecordOf placed game = IsRecordWith placed game.moves.items game.score game.declared
