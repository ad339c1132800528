use Rattle.http_desk.proofs.MembersCommands.{answer_is_members, challenge_is_members, same_is_members}
use Rattle.http_desk.proofs.desk.serve_page.Goals as goal

pub returns-in_ok-command-in-Challenge-clause-serves : goal.returns-in_ok-command-in-Challenge-clause-serves
returns-in_ok-command-in-Challenge-clause-serves g c clean s stands =
    let read = c.in_ok-command-in-Challenge.ensures in
    rw (c.in-Challenge.is, ← read)
    (c.serve_command-in-Challenge.ensures.serves clean s stands
    (same_is_members _ _ read (challenge_is_members c.args.asked.number c.args.body.now)))

pub returns-in_ok-command-in-Answer-clause-serves : goal.returns-in_ok-command-in-Answer-clause-serves
returns-in_ok-command-in-Answer-clause-serves g c clean s stands =
    let read = c.in_ok-command-in-Answer.ensures in
    rw (c.in-Answer.is, ← read)
    (c.serve_command-in-Answer.ensures.serves clean s stands
    (same_is_members _ _ read (answer_is_members c.args.asked.member.now c.args.asked.number c.args.body.now)))
