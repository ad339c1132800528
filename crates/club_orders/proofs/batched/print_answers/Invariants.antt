use Rattle.std.proofs.Common.{drop}
use Rattle.club_orders.specs.Batches.{answer_lines}
use Rattle.club_orders.proofs.PrintedLemmas.{IsWrittenUpTo}
use Rattle.club_orders.proofs.batched.print_answers.Given as goal

abbrev pub invariant-loop-place : goal.invariant-loop-place
invariant-loop-place g l =
    IsWrittenUpTo (g.O.Write.contents l.fn.out) (g.O.Write.contents l.out)
    (answer_lines (drop l.place l.numbers) (drop l.place l.outcomes)) (answer_lines l.numbers l.outcomes)
