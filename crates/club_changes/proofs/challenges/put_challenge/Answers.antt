use Rattle.std.proofs.Common.{[]}
use Rattle.club_core.specs.State.{with_challenge}
use Rattle.club_changes.proofs.ChallengedTables.{challenge_decided, challenge_unmoved}
use Rattle.club_changes.proofs.challenges.put_challenge.Goals as goal

pub returns-in_ok-changes-in-Accepted-clause-step : goal.returns-in_ok-changes-in-Accepted-clause-step
returns-in_ok-changes-in-Accepted-clause-step c s is_club =
    rw c.in-Accepted.is
    (challenge_decided s is_club c.args.moment c.in-Accepted.challenge c.in-Accepted.answer
    c.in_ok-changes-in-Accepted.changes (c.in_ok-changes-in-Accepted.ensures c.args.moment [] [] c.changes_at.ensures))

pub returns-in-Repeated-clause-step : goal.returns-in-Repeated-clause-step
returns-in-Repeated-clause-step c s is_club =
    challenge_unmoved s is_club c.args.moment (with_challenge s c.args.moment) c.args.decision c.without_changes.result
    (rw c.in-Repeated.is c.without_changes.ensures.outcome) c.without_changes.ensures.none

pub returns-in-Refused-clause-step : goal.returns-in-Refused-clause-step
returns-in-Refused-clause-step c s is_club =
    challenge_unmoved s is_club c.args.moment (with_challenge s c.args.moment) c.args.decision
    c.without_changes-in-Refused.result
    (rw c.in-Refused.is c.without_changes-in-Refused.ensures.outcome) c.without_changes-in-Refused.ensures.none
