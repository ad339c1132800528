use Rattle.std.proofs.Common.{◌≡◌, length}
use Rattle.std.specs.List.{list_any}
use Rattle.masks.specs.internal.Words.{ascending}
use Rattle.shogi_moves.specs.internal.Search.{attacked, king_attacked}
use Rattle.shogi_moves.proofs.kings.is_king_attacked.Given as goal

abbrev pub invariant-loop-square : goal.invariant-loop-square
invariant-loop-square l = list_any (attacked l.board l.side) (ascending 0 81 l.rest) ≡ king_attacked l.board l.side

abbrev pub decreases-loop-square : goal.decreases-loop-square
decreases-loop-square l = length (ascending 0 81 l.rest)
