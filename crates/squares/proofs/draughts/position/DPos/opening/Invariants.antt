use Rattle.std.proofs.Common.{◌≡◌, ℕ, ◌+◌, ◌<◌, None, length, get_or}
use Rattle.squares.specs.DraughtsOpening.{opening_piece}
use Rattle.squares.proofs.draughts.position.DPos.opening.Given as goal

abbrev pub invariant-loop-i : goal.invariant-loop-i
invariant-loop-i l = (length l.cells ≡ 50) × ((k : ℕ) → k < l.i → get_or l.cells k None ≡ opening_piece (k + 1))
