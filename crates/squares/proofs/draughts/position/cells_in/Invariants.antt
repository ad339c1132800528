use Rattle.std.proofs.Common.{◌≡◌, ℕ, ◌+◌, ◌<◌, None, length, get_or}
use Rattle.squares.specs.internal.DraughtsKept.{cell_in}
use Rattle.squares.proofs.draughts.position.cells_in.Given as goal

abbrev pub invariant-loop-i : goal.invariant-loop-i
invariant-loop-i l = (length l.cells ≡ 50)
    × ((k : ℕ) → k < l.i → get_or l.cells k None ≡ cell_in l.first l.second l.kings (k + 1))
