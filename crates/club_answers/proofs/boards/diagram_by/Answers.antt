use Rattle.club_answers.proofs.boards.diagram_by.Goals as goal

pub returns-clause-shown : goal.returns-clause-shown
returns-clause-shown g c clean content game k tells judged of =
    cc (c.in_ok-text.ensures, (c.in_ok-view.ensures.shows clean content game k tells judged of).position)
