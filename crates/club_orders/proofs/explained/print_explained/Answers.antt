use Rattle.club_orders.proofs.ExplainedLemmas.{fault_explained, refusal_explained}
use Rattle.club_orders.proofs.explained.print_explained.Goals as goal

pub returns-clause-refused : goal.returns-clause-refused
returns-clause-refused g c is =
    refusal_explained _ _ _ c.args.given.now.explains c.args.given.now.task.now c.args.given.now.report.now c.print-status.result is
    (c.print-status.ensures.refused is) c.write_second_line.ensures

pub returns-clause-told : goal.returns-clause-told
returns-clause-told g c is =
    fault_explained _ _ _ c.args.given.now.explains c.args.given.now.task.now c.args.given.now.report.now c.print-status.result is
    (c.print-status.ensures.told is) c.write_second_line.ensures
