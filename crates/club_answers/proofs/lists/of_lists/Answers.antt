use Rattle.club_answers.proofs.lists.of_lists.Goals as goal

pub returns-clause-found : goal.returns-clause-found
returns-clause-found g c clean s is_club version k =
    c.in_ok-found.ensures s c.args.moment (c.in_ok-club.ensures.read clean s is_club version k)
