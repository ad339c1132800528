use Rattle.std.proofs.Common.{◌≡◌, ◌∙◌, subst}
use Rattle.club_orders.specs.Batches.{IsBegunWith}
use Rattle.club_orders.specs.Explained.{order_explained}
use Rattle.club_orders.proofs.PrintedLemmas.{begun_some}
use Rattle.club_orders.proofs.explained_batch.explain_order.Goals as goal

pub returns-else-write_out-clause-begun : goal.returns-else-write_out-clause-begun
returns-else-write_out-clause-begun g c =
    let bytes : c.as_bytes.result.now ≡ order_explained c.args.number c.args.command.now c.args.outcome.now =
    c.as_bytes.ensures.value ∙ c.in-Ok.ensures in
    subst (λ text. IsBegunWith (g.E.Write.contents c.args.err.now)
    (g.E.Write.contents c.write_out.new.writer) text) bytes
    (begun_some _ _ c.as_bytes.result.now c.write_out.ensures.beginning.0 c.write_out.ensures.beginning.1)
