use Rattle.std.proofs.Common.{take}
use Rattle.draughts_draws.specs.internal.Counting.{Follows}
use Rattle.draughts_draws.proofs.judging.judge.Given as goal

abbrev pub invariant-loop-played : goal.invariant-loop-played
invariant-loop-played l = Follows l.start (take l.played-index l.moves) l.counts
