use Rattle.std.proofs.Common.{take}
use Rattle.squares.specs.ShogiOpening.{opening}
use Rattle.csa.specs.Moves.{MeanAll}
use Rattle.csa.specs.Replays.{written_moves}
use Rattle.csa.specs.internal.Replaying.{IsConsistent}
use Rattle.csa.proofs.replay.replay_of.Given as goal

pub record Replayed (IsStanding IsMeant : Type 0) : Type 0 where
  pub stands : IsStanding
  pub mean : IsMeant

abbrev pub invariant-loop-each : goal.invariant-loop-each
invariant-loop-each l =
    Replayed (IsConsistent l.replay) (MeanAll opening (written_moves (take l.each-index l.placed)) l.replay.moves.items)
