use Rattle.std.proofs.Common.{◌≡◌, ◌+◌, ℕ, arith, subst, sym}
use Rattle.std.specs.List.{sum_by}
use Rattle.squares.specs.DraughtsSets.{ascending}
use Rattle.draughts_moves.specs.internal.Counting.{quiet_count, king_count, sum_squares}
use Rattle.draughts_moves.proofs.CountLemmas.{kings-counted, kings-few, popped_sum}
use Rattle.draughts_moves.proofs.counting.count_of_kings.Goals as goal

pub loop-square-init : goal.loop-square-init
loop-square-init c = kings-counted c.args.position.now c.squares_of-own.result c.kings.result
    (rw c.turn.ensures at c.squares_of-own.ensures) c.kings.ensures c.intersection-kings.result
    c.intersection-kings.ensures

-- with the next king's moves, and those of the kings after it, the count is whole
next : (c : goal.After-count_from-count) → (c.loop-square.count + c.count_from-count.result)
    + sum_by (quiet_count c.args.position.now) (ascending c.pop.new.self) ≡ sum_squares (king_count c.args.position.now)
next c =
    let p = c.args.position.now in
    let w = c.loop-square in
    subst (λ (n : ℕ). (w.count + n) + sum_by (quiet_count p) (ascending c.pop.new.self) ≡ sum_squares (king_count p))
    (sym c.count_from-count.ensures)
    (popped_sum (quiet_count p) w.kings c.pop.new.self c.in-Some.square w.count (sum_squares (king_count p))
    c.in-Some.ensures.0 w.invariant)

pub overflow_add-count : goal.overflow_add-count
overflow_add-count c = omega (arith, next c, kings-few c.args.position.now)

pub returns-clause-few : goal.returns-clause-few
returns-clause-few c = omega (arith, c.loop-square.invariant, kings-few c.args.position.now)
