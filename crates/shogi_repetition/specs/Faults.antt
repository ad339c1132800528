-- Legal shogi histories, and the faults of the others.
use Rattle.std.specs.Prelude.{ℕ, List}
use Rattle.game_history.specs.Faults as lines
use Rattle.squares.specs.declared.shogi.moves.SMove.{SMove}
use Rattle.squares.specs.ShogiSets.{ShogiPosition}
use Rattle.shogi_moves.specs.declared.checking.Illegal.{Illegal}
use Rattle.shogi_moves.specs.Rules.{Legal, FirstBroken, play}
use Rattle.shogi_repetition.specs.declared.ends.SEnd.{SEnd}
use Rattle.shogi_repetition.specs.Ends.{EndsSo}

-- A move is refused for the first rule that it breaks.
abbrev pub shogi_lines : lines.LineRules ShogiPosition SMove SEnd Illegal
shogi_lines = record { play = play; Legal = Legal; IsRefused = FirstBroken; EndsSo = EndsSo }

abbrev pub IsPlayed : ShogiPosition → List SMove → ℕ → Type 0
IsPlayed = lines.IsPlayed shogi_lines
