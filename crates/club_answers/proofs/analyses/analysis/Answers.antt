use Rattle.club_analysis.specs.internal.Line.{shown_view}
use Rattle.club_answers.proofs.analyses.analysis.Goals as goal

pub returns-in_ok-text_of-in-Ok-clause-found : goal.returns-in_ok-text_of-in-Ok-clause-found
returns-in_ok-text_of-in-Ok-clause-found g c clean s is_club k =
    let told = rw c.in-Ok.is at (c.in_ok-shown.ensures.answered clean s is_club k) in
    (shown_view c.in-Ok.shown, told, c.in_ok-text_of-in-Ok.ensures)
