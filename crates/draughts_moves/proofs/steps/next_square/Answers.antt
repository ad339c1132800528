use Rattle.std.proofs.Common.{nat_eq, sym, ◌∙◌}
use Rattle.std.specs.Ordering.{nat_cmp}
use Rattle.std.specs.FinSet.{contains-empty}
use Rattle.std.proofs.Math.Bool.{or-false}
use Rattle.squares.specs.internal.DraughtsMarks.{contains-insert_nat}
use Rattle.draughts_moves.proofs.LineLemmas.{turned}
use Rattle.draughts_moves.proofs.steps.next_square.Goals as goal

pub returns-in-Some : goal.returns-in-Some
returns-in-Some c = λ n.
    rw (c.with.ensures, contains-insert_nat, c.new.ensures, contains-empty nat_cmp n, sym c.step.ensures ∙ c.in-Some.is)
    (or-false (nat_eq n c.in-Some.next) ∙ turned n c.in-Some.next)

pub returns-in-None : goal.returns-in-None
returns-in-None c = λ n. rw (c.new-in-None.ensures, contains-empty nat_cmp n, sym c.step.ensures ∙ c.in-None.is)
