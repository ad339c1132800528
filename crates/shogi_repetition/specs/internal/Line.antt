-- Shogi histories. No promise of the program rests on these definitions.
use Rattle.std.specs.Prelude.{List}
use Rattle.game_history.specs.Line as line
use Rattle.squares.specs.declared.shogi.moves.SMove.{SMove}
use Rattle.squares.specs.ShogiSets.{ShogiPosition}
use Rattle.shogi_moves.specs.Rules.{play}

-- All positions of a history, from the first to the last.
abbrev pub positions : ShogiPosition → List SMove → List ShogiPosition
positions = line.positions play
