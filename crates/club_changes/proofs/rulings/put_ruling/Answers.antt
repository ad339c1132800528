use Rattle.club_requests.specs.Outcome.{by_officer}
use Rattle.club_core.specs.Step.{ruling_step}
use Rattle.club_changes.proofs.GivenRulings.{given_ruling, none_ruled}
use Rattle.club_changes.proofs.rulings.put_ruling.Goals as goal

pub returns-in-Repeated-clause-step : goal.returns-in-Repeated-clause-step
returns-in-Repeated-clause-step g c terms old was who number ruling table budget increment legal is_row is has scores =
    none_ruled g.R.Rules.rules terms c.args.game old number ruling c.args.moment table
    (by_officer who (ruling_step g.R.Rules.rules old number ruling c.args.moment)) c.args.shown c.without_changes.result is
    (rw c.in-Repeated.is c.without_changes.ensures.outcome) c.without_changes.ensures.none

pub returns-in-Refused-clause-step : goal.returns-in-Refused-clause-step
returns-in-Refused-clause-step g c terms old was who number ruling table budget increment legal is_row is has scores =
    none_ruled g.R.Rules.rules terms c.args.game old number ruling c.args.moment table
    (by_officer who (ruling_step g.R.Rules.rules old number ruling c.args.moment)) c.args.shown
    c.without_changes-in-Refused.result is (rw c.in-Refused.is c.without_changes-in-Refused.ensures.outcome)
    c.without_changes-in-Refused.ensures.none

pub returns-clause-step : goal.returns-clause-step
returns-clause-step g c terms old was who number ruling table budget increment legal is_row is has scores =
    given_ruling g.R.Rules.rules terms c.args.game old number ruling c.args.moment table was is_row legal budget increment
    c.in-Accepted.row c.in-Accepted.made c.in-Accepted.answer c.args.rows c.in_ok-changes.changes
    c.in_ok-changes.ensures who c.args.shown c.in-Accepted.is is has scores
