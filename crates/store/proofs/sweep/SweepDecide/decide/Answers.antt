use Rattle.std.proofs.lemmas.Result.{IfOk-weaker}
use Rattle.club_rows.proofs.Proved.{stores-rows}
use Rattle.club_changes.proofs.Proved.{member_refused}
use Rattle.store.proofs.sweep.SweepDecide.decide.Goals as goal

pub returns-in-Member-clause-step : goal.returns-in-Member-clause-step
returns-in-Member-clause-step g c clean s is_club version taken later k =
    member_refused s c.args.moment c.args.caller _ c.without_changes.result c.in-Member.is c.without_changes.ensures.outcome
    c.without_changes.ensures.none

pub returns-in-Officer-clause-step : goal.returns-in-Officer-clause-step
returns-in-Officer-clause-step g c clean =
    IfOk-weaker c.swept.result _ _ (λ d step s is_club version taken later k.
    rw c.in-Officer.is (step s is_club (stores-rows s _ k))) (c.swept.ensures.step clean)
