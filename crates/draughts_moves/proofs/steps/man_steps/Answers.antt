use Rattle.std.specs.Cmp.{nat_cmp_total}
use Rattle.std.specs.FinMap.{get}
use Rattle.std.specs.FinSet.{contains-union}
use Rattle.draughts_moves.proofs.ClearLemmas.{steps-first, steps-second}
use Rattle.draughts_moves.proofs.steps.man_steps.Goals as goal

pub returns-in-First : goal.returns-in-First
returns-in-First c = λ n.
    rw (c.union.ensures, contains-union nat_cmp_total, c.step_ahead-left.ensures n, c.step_ahead.ensures n)
    (steps-first (get c.args.position.now.board) c.args.piece c.args.from c.requires c.in-First.is n)

pub returns-in-Second : goal.returns-in-Second
returns-in-Second c = λ n.
    rw (c.union-in-Second.ensures, contains-union nat_cmp_total)
    (rw (c.step_ahead-left-in-Second.ensures n, c.step_ahead-in-Second.ensures n)
    (steps-second (get c.args.position.now.board) c.args.piece c.args.from c.requires c.in-Second.is n))
