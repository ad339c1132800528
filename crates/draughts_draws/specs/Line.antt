-- Draughts histories.
use Rattle.std.specs.Prelude.{List}
use Rattle.game_history.specs.Line as line
use Rattle.squares.specs.declared.draughts.moves.DMove.{DMove}
use Rattle.squares.specs.DraughtsBoard.{Position}
use Rattle.draughts_moves.specs.Legal.{play}

-- The last position of a history.
abbrev pub last_position : Position → List DMove → Position
last_position = line.last_position play

-- All positions of a history, from the first to the last.
abbrev pub positions : Position → List DMove → List Position
positions = line.positions play
