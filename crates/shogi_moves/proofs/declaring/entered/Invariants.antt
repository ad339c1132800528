use Rattle.std.proofs.Common.{◌≡◌, ◌+◌, ◌≤◌, ◌*◌, length, sum_by}
use Rattle.masks.specs.internal.Words.{ascending}
use Rattle.shogi_moves.specs.Declaring.{entered, camp_points}
use Rattle.shogi_moves.proofs.DeclareLemmas.{one_at, points_at}
use Rattle.shogi_moves.proofs.declaring.entered.Given as goal

abbrev pub invariant-loop-number : goal.invariant-loop-number
invariant-loop-number l =
    (l.found.pieces + sum_by (one_at l.board l.side) (ascending 0 81 l.rest) ≡ entered l.board l.side)
    × (l.found.points + sum_by (points_at l.board l.side) (ascending 0 81 l.rest) ≡ camp_points l.board l.side)
    × (l.found.points ≤ 5 * l.found.pieces)

abbrev pub decreases-loop-number : goal.decreases-loop-number
decreases-loop-number l = length (ascending 0 81 l.rest)
