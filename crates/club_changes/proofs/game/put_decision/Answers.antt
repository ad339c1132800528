use Rattle.club_core.proofs.Proved.{are_rules}
use Rattle.club_core.specs.Step.{game_step}
use Rattle.club_changes.proofs.PlayedLemmas.{none_given, given_change}
use Rattle.club_changes.proofs.game.put_decision.Goals as goal

pub returns-in-Repeated-clause-step : goal.returns-in-Repeated-clause-step
returns-in-Repeated-clause-step g c terms old who command table budget increment legal is seen scores =
    none_given g.R.Rules.rules terms c.args.game old c.args.moment table
    (game_step g.R.Rules.rules terms old c.args.moment who command) c.args.shown c.without_changes.result is
    (rw c.in-Repeated.is c.without_changes.ensures.outcome) c.without_changes.ensures.none

pub returns-in-Refused-clause-step : goal.returns-in-Refused-clause-step
returns-in-Refused-clause-step g c terms old who command table budget increment legal is seen scores =
    none_given g.R.Rules.rules terms c.args.game old c.args.moment table
    (game_step g.R.Rules.rules terms old c.args.moment who command) c.args.shown c.without_changes-in-Refused.result is
    (rw c.in-Refused.is c.without_changes-in-Refused.ensures.outcome) c.without_changes-in-Refused.ensures.none

pub returns-clause-step : goal.returns-clause-step
returns-clause-step g c terms old who command table budget increment legal is seen scores =
    let laws = g.R.Rules.rules in
    let met = g.met.R.Rules in
    let are = are_rules laws met.first_starts met.turn_passes met.same_is met.ends_at_limit in
    given_change laws are terms c.args.game old c.args.moment who command budget increment legal table c.args.shown
    c.in-Accepted.row c.in-Accepted.made c.in-Accepted.answer c.args.counts c.in_ok-changes.changes c.in-Accepted.is is
    seen scores c.in_ok-changes.ensures
