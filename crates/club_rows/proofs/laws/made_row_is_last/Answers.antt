use Rattle.club_rows.proofs.MadeLemmas.{made-last}
use Rattle.club_rows.proofs.laws.made_row_is_last.Goals as goal

pub returns : goal.returns
returns g c = made-last g.R.Rules.rules (assumption (g.met.R.Rules))
