use Rattle.std.proofs.Common.{take}
use Rattle.pdn_games.specs.internal.Writer.{HasWritten}
use Rattle.scripts.proofs.rules.pdn_written.write_moves.Given as goal

-- so many moves are written
abbrev pub invariant-loop-i : goal.invariant-loop-i
invariant-loop-i g l = HasWritten l.head (take l.i l.moves) (g.W.Write.contents l.fn.writer)
    (g.W.Write.contents l.writer) l.game
