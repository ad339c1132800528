use Rattle.std.proofs.Common.{ℕ, ◌-◌, List, take}
use Rattle.std.specs.Io.KnownBytes.{Appends}
use Rattle.perft.specs.internal.Lines.{AreTheMoves, AreLines, HasLines}
use Rattle.perft.proofs.count.print_counts.Given as goal

-- the lines of the moves so far are printed, and their counts add up
abbrev pub invariant-loop-played : goal.invariant-loop-played
invariant-loop-played g l =
    let game = g.G.Game in
    AreTheMoves game.Legal game.order l.position l.played-items
    × ((lines : List ℕ)
    × AreLines (λ m. game.Writes l.position m)
    (λ m count. HasLines game.Legal game.order game.after (l.depth - 1) (game.after l.position m) count)
    (take l.played-index l.played-items) lines l.total
    × Appends (g.W.Write.contents l.initial.out) (g.W.Write.contents l.out) lines)
