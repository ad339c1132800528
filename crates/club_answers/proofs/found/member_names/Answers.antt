use Rattle.club_answers.proofs.found.member_names.Goals as goal

pub returns-clause-found : goal.returns-clause-found
returns-clause-found g c clean s is_club version k =
    rw (c.deref.ensures.value, c.in_ok-members.ensures.values clean s is_club version k) at c.in_ok-text.ensures
