-- Shogi histories.
use Rattle.std.specs.Prelude.{ℕ, List}
use Rattle.game_history.specs.Line as line
use Rattle.squares.specs.declared.shogi.moves.SMove.{SMove}
use Rattle.squares.specs.ShogiSets.{ShogiPosition}
use Rattle.shogi_moves.specs.Rules.{play}

-- The last position of a history.
abbrev pub last_position : ShogiPosition → List SMove → ShogiPosition
last_position = line.last_position play

-- The position after k plies.
abbrev pub position_after : ShogiPosition → List SMove → ℕ → ShogiPosition
position_after = line.position_after play
