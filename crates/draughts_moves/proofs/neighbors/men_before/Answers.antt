use Rattle.std.specs.Cmp.{nat_cmp_total}
use Rattle.std.specs.FinSet.{contains-union}
use Rattle.draughts_moves.proofs.neighbors.men_before.Goals as goal

pub returns-in-First : goal.returns-in-First
returns-in-First c = λ n. rw (
  c.in-First.is,
  c.union.ensures,
  contains-union nat_cmp_total,
  c.predecessors-left.ensures n,
  c.predecessors.ensures n,
)

pub returns-in-Second : goal.returns-in-Second
returns-in-Second c = λ n. rw (
  c.in-Second.is,
  c.union-in-Second.ensures,
  contains-union nat_cmp_total,
  c.predecessors-left-in-Second.ensures n,
  c.predecessors-in-Second.ensures n,
)
