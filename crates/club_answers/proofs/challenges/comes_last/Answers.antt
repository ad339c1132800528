use Rattle.club_answers.proofs.ChallengeOrder.{after_all}
use Rattle.club_answers.proofs.challenges.comes_last.Goals as goal

pub returns-in-Some : goal.returns-in-Some
returns-in-Some c is up = after_all c.args.challenges.now c.in-Some.last.now c.args.next.now c.in-Some.ensures.value
    (c.comes_before.ensures is) up
