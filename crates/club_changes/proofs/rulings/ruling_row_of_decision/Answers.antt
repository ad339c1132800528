use Rattle.club_requests.specs.Outcome.{by_officer}
use Rattle.club_core.specs.Step.{ruling_step}
use Rattle.club_changes.proofs.GivenRulings.{no_row, row_given}
use Rattle.club_changes.proofs.rulings.ruling_row_of_decision.Goals as goal

pub returns-in_ok-row-in-Accepted : goal.returns-in_ok-row-in-Accepted
returns-in_ok-row-in-Accepted g c terms was who is_row legal shown =
    row_given g.R.Rules.rules terms c.args.game was c.args.command.now.number c.args.command.now.ruling c.args.moment
    c.args.old.now is_row legal c.in_ok-row-in-Accepted.row c.beneath-over.result c.beneath-over.ensures
    (rw c.from.ensures at c.in_ok-row-in-Accepted.ensures) who

pub returns-in_default : goal.returns-in_default
returns-in_default g c terms was who is_row legal shown =
    no_row g.R.Rules.rules terms c.args.game was c.args.command.now.number c.args.command.now.ruling c.args.moment
    c.args.decision.now
    (by_officer who
    (ruling_step g.R.Rules.rules was c.args.command.now.number c.args.command.now.ruling c.args.moment)) shown
    c.in_default.not-Accepted
