use Rattle.std.proofs.Common.{sym, subst}
use Rattle.club_core.specs.LegalState.{Each, IsLegalEvent}
use Rattle.club_core.specs.State.{with_answer}
use Rattle.club_changes.proofs.ChallengedTables.{answer_decided, challenge_unmoved}
use Rattle.club_changes.proofs.challenges.put_answered.Goals as goal

pub returns-in_ok-changes-in-Accepted-clause-step : goal.returns-in_ok-changes-in-Accepted-clause-step
returns-in_ok-changes-in-Accepted-clause-step c s accept is_club es leaves =
    let legal = subst (Each IsLegalEvent) (sym es) is_club.events in
    rw c.in-Accepted.is
    (answer_decided s is_club c.args.moment accept c.in-Accepted.challenge c.in-Accepted.answer
    c.in_ok-changes-in-Accepted.changes (rw c.in-Accepted.is at leaves)
    (rw es at (c.in_ok-changes-in-Accepted.ensures.puts legal)))

pub returns-in-Repeated-clause-step : goal.returns-in-Repeated-clause-step
returns-in-Repeated-clause-step c s accept is_club es leaves =
    challenge_unmoved s is_club c.args.moment (with_answer s c.args.moment accept) c.args.decision c.without_changes.result
    (rw c.in-Repeated.is c.without_changes.ensures.outcome) c.without_changes.ensures.none

pub returns-in-Refused-clause-step : goal.returns-in-Refused-clause-step
returns-in-Refused-clause-step c s accept is_club es leaves =
    challenge_unmoved s is_club c.args.moment (with_answer s c.args.moment accept) c.args.decision
    c.without_changes-in-Refused.result
    (rw c.in-Refused.is c.without_changes-in-Refused.ensures.outcome) c.without_changes-in-Refused.ensures.none
