use Rattle.club_rows.proofs.MadeLemmas.{ruled-last}
use Rattle.club_rows.proofs.laws.ruling_row_is_last.Goals as goal

pub returns : goal.returns
returns g c = ruled-last g.R.Rules.rules
