use Rattle.std.proofs.Common.{take}
use Rattle.squares.specs.DraughtsOpening.{opening}
use Rattle.pdn_games.specs.Contents.{move_texts}
use Rattle.pdn_games.specs.Moves.{MeanAll}
use Rattle.pdn_games.specs.internal.Replaying.{IsConsistent}
use Rattle.pdn_games.specs.internal.TokenValues.{all_placed}
use Rattle.pdn_games.proofs.replay.replay_of.Given as goal

pub record Replayed (IsStanding IsMeant : Type 0) : Type 0 where
  pub stands : IsStanding
  pub mean : IsMeant

abbrev pub invariant-loop-i : goal.invariant-loop-i
invariant-loop-i l =
    Replayed (IsConsistent l.replay)
    (MeanAll opening (move_texts (all_placed (take l.i l.placed))) l.replay.moves.items)
