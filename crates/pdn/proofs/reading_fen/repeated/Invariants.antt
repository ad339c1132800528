use Rattle.std.proofs.Common.{◌≡◌, take, drop}
use Rattle.pdn.specs.ReadFen.{repeated, repeated_after}
use Rattle.pdn.proofs.reading_fen.repeated.Given as goal

abbrev pub invariant-loop-i : goal.invariant-loop-i
invariant-loop-i l = repeated_after (take l.i l.items) (drop l.i l.items) ≡ repeated l.items
