use Rattle.club_answers.proofs.OverdueLemmas.{counted, swept_alone}
use Rattle.club_answers.proofs.laws.overdue_games_are_swept.Goals as goal

pub returns-clause-counted : goal.returns-clause-counted
returns-clause-counted c = λ s moment id game. counted s moment id game

pub returns-clause-swept : goal.returns-clause-swept
returns-clause-swept c = λ s moment id game. swept_alone s moment id game
