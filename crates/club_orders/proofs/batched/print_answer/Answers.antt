use Rattle.std.proofs.Common.{◌≡◌, ◌∙◌, subst}
use Rattle.club_orders.specs.Batches.{answer_line, IsBegunWith}
use Rattle.club_orders.proofs.PrintedLemmas.{begun_some}
use Rattle.club_orders.proofs.batched.print_answer.Goals as goal

pub returns-else-write_out-clause-begun : goal.returns-else-write_out-clause-begun
returns-else-write_out-clause-begun g c =
    let bytes : c.as_bytes.result.now ≡ answer_line c.args.number c.args.outcome.now =
    c.as_bytes.ensures.value ∙ c.in-Ok.ensures in
    subst (λ text. IsBegunWith (g.O.Write.contents c.args.out.now)
    (g.O.Write.contents c.write_out.new.writer) text) bytes
    (begun_some _ _ c.as_bytes.result.now c.write_out.ensures.beginning.0 c.write_out.ensures.beginning.1)
