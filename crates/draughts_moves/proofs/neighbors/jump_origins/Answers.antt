use Rattle.std.specs.Cmp.{nat_cmp_total}
use Rattle.std.specs.FinSet.{contains-union}
use Rattle.draughts_moves.proofs.neighbors.jump_origins.Goals as goal

pub returns : goal.returns
returns c = λ n.
    simp (c.union.ensures, c.union-up_or_left.ensures, c.union-up.ensures, contains-union nat_cmp_total)
    (rw (c.beside_along-left.ensures n, c.beside_along-right.ensures n, c.beside_along.ensures n)
    (rw (c.beside_along-2.ensures n)))
