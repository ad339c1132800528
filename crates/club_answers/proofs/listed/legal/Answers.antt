use Rattle.club_answers.proofs.listed.legal.Goals as goal

pub returns-clause-legal : goal.returns-clause-legal
returns-clause-legal g c clean content game k tells judged of =
    c.in_ok-texts.ensures game (c.in_ok-view.ensures.shows clean content game k tells judged of)
