use Rattle.club_answers.proofs.StandingsLemmas.{standings_one}
use Rattle.club_answers.proofs.laws.standings_are_one.Goals as goal

pub returns : goal.returns
returns c = λ s name text others one two. standings_one s name text others one two
