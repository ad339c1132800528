use Rattle.std.proofs.Common.{◌-◌, take}
use Rattle.perft.specs.internal.Lines.{AddUp, AreTheMoves}
use Rattle.perft.proofs.LinesLemmas.{after_first}
use Rattle.perft.proofs.count.+leaves.Given as goal

abbrev pub decreases-leaves : goal.decreases-leaves
decreases-leaves g l = l.depth

-- the counts of the moves so far add up
abbrev pub invariant-loop-played : goal.invariant-loop-played
invariant-loop-played g l =
    AreTheMoves g.G.Game.Legal g.G.Game.order l.position l.played-items
    × AddUp (after_first g.G.Game.Legal g.G.Game.order g.G.Game.after (l.depth - 1) l.position)
    (take l.played-index l.played-items) l.count
