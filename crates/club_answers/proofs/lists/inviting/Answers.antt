use Rattle.club_answers.proofs.lists.inviting.Goals as goal

pub returns-in_ok-text-in-Some : goal.returns-in_ok-text-in-Some
returns-in_ok-text-in-Some c s moment read = (
  c.in-Some.field-0.now,
  rw (c.deref.ensures.value, read.members_are) at c.in-Some.ensures.some,
  rw (c.deref-in-Some.ensures.value, c.deref-in-Some-2.ensures.value, read.members_are, read.events_are)
      at c.in_ok-text-in-Some.ensures,
)
