use Rattle.std.proofs.Common.{◌≡◌, ℕ, None, nat_lt, cond}
use Rattle.std.specs.FinMap as map
use Rattle.squares.specs.ShogiOpening.{opening_cell}
use Rattle.squares.proofs.shogi.opening.opening_board.Given as goal

abbrev pub invariant-loop-number : goal.invariant-loop-number
invariant-loop-number l = (q : ℕ) → map.get l.board q ≡ cond (nat_lt q l.number) (opening_cell q) None
