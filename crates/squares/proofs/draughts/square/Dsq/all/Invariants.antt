use Rattle.std.proofs.Common.{◌≡◌, ℕ, ◌+◌, ◌<◌, length, get_or}
use Rattle.squares.proofs.draughts.square.Dsq.all.Given as goal

abbrev pub invariant-loop-i : goal.invariant-loop-i
invariant-loop-i l = (length l.squares ≡ 50) × ((k : ℕ) → k < l.i → get_or l.squares k 0 ≡ k + 1)
