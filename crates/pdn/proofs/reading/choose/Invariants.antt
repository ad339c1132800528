use Rattle.std.proofs.Common.{take}
use Rattle.pdn.specs.internal.Choice.{IsChoice}
use Rattle.pdn.specs.ReadMove.{Fits}
use Rattle.pdn.proofs.reading.choose.Given as goal

abbrev pub invariant-loop-played : goal.invariant-loop-played
invariant-loop-played l = IsChoice (Fits l.position l.from l.middle l.to) (take l.played-index l.moves) l.choice
