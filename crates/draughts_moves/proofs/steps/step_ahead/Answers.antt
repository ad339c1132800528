use Rattle.std.specs.Cmp.{nat_cmp_total}
use Rattle.std.specs.FinSet.{contains-intersection}
use Rattle.draughts_moves.proofs.ClearLemmas.{ahead-in}
use Rattle.draughts_moves.proofs.steps.step_ahead.Goals as goal

pub returns : goal.returns
returns c = λ n.
    rw (c.intersection.ensures, contains-intersection nat_cmp_total, c.next_square-next.ensures n)
    (ahead-in c.args.position.now c.empty_squares.result c.empty_squares.ensures.empty c.args.toward c.args.from n)
