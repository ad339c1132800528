use Rattle.std.specs.Cmp.{nat_cmp_total}
use Rattle.std.specs.FinSet.{contains-intersection}
use Rattle.draughts_moves.proofs.neighbors.exposed_squares.Goals as goal

pub returns : goal.returns
returns c = λ n. rw (c.intersection.ensures, contains-intersection nat_cmp_total, c.predecessors.ensures n)
