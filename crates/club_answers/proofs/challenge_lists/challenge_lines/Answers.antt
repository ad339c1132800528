use Rattle.std.proofs.Common.{ap, ◌∙◌}
use Rattle.club_core.specs.internal.Answer.{events_of, members_of}
use Rattle.club_lists.specs.ChallengeLines.{challenge_lines}
use Rattle.club_answers.proofs.challenge_lists.challenge_lines.Goals as goal

pub returns-clause-found : goal.returns-clause-found
returns-clause-found g c clean s is_club version k =
    let read = c.in_ok-read.ensures.read clean s is_club version k in
    let members = ap members_of c.deref.ensures.value ∙ read.members_are in
    let events = ap events_of c.deref-2.ensures.value ∙ read.events_are in (
      c.in_ok-read.read.challenges.items,
      read.challenges_are,
      c.in_ok-text.ensures ∙ (λ i. challenge_lines (members i) (events i) (c.deref-3.ensures.value i)),
    )
