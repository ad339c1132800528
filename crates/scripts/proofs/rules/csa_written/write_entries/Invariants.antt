use Rattle.std.proofs.Common.{take}
use Rattle.csa.specs.internal.Writer.{HasWritten}
use Rattle.scripts.proofs.rules.csa_written.write_entries.Given as goal

-- so many moves are written
abbrev pub invariant-loop-i : goal.invariant-loop-i
invariant-loop-i g l = HasWritten l.head (take l.i l.entries) (g.W.Write.contents l.fn.writer)
    (g.W.Write.contents l.writer) l.game
