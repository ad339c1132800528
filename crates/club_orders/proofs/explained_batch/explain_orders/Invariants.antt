use Rattle.std.proofs.Common.{drop}
use Rattle.club_orders.specs.Explained.{orders_explained}
use Rattle.club_orders.proofs.PrintedLemmas.{IsWrittenUpTo}
use Rattle.club_orders.proofs.explained_batch.explain_orders.Given as goal

abbrev pub invariant-loop-place : goal.invariant-loop-place
invariant-loop-place g l =
    IsWrittenUpTo (g.E.Write.contents l.fn.err) (g.E.Write.contents l.err)
    (orders_explained (drop l.place l.numbers) (drop l.place l.requests) (drop l.place l.outcomes))
    (orders_explained l.numbers l.requests l.outcomes)
