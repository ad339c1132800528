use Rattle.std.proofs.Common.{◌≡◌, rules}
use Rattle.club_orders.specs.Explained.{line_at}
use Rattle.club_orders.proofs.PrintedLemmas.{begun_same}
use Rattle.club_orders.proofs.explained.write_explanation.Goals as goal

pub returns-then-status : goal.returns-then-status
returns-then-status g c =
    let line : line_at c.args.status c.args.task.now c.args.report.now ≡ c.as_bytes.result.now = search rules in
    begun_same _ _ _ _ line c.write_out-is_told.ensures.beginning

pub returns-in-None : goal.returns-in-None
returns-in-None g c =
    let line : line_at c.args.status c.args.task.now c.args.report.now ≡ c.as_bytes-in-None.result.now = search rules in
    begun_same _ _ _ _ line c.write_out-is_told-in-None.ensures.beginning
