use Rattle.std.proofs.Common.{◌≡◌, drop}
use Rattle.pdn.specs.internal.Subsequence.{is_subsequence}
use Rattle.pdn.proofs.passing.is_subsequence.Given as goal

abbrev pub invariant-loop-square : goal.invariant-loop-square
invariant-loop-square l = is_subsequence l.left (drop l.square-index l.squares) ≡ is_subsequence l.middle l.squares
