use Rattle.std.proofs.Common.{◌≡◌, length}
use Rattle.std.specs.List.{list_any}
use Rattle.masks.specs.internal.Words.{ascending}
use Rattle.shogi_moves.specs.Declaring.{in_camp}
use Rattle.shogi_moves.specs.internal.Declaring.{king_entered}
use Rattle.shogi_moves.proofs.declaring.king_entered.Given as goal

abbrev pub invariant-loop-number : goal.invariant-loop-number
invariant-loop-number l = list_any (in_camp l.side) (ascending 0 81 l.rest) ≡ king_entered l.board l.side

abbrev pub decreases-loop-number : goal.decreases-loop-number
decreases-loop-number l = length (ascending 0 81 l.rest)
