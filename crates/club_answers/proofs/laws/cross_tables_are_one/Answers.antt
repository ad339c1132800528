use Rattle.club_answers.proofs.Proved.{table_one}
use Rattle.club_answers.proofs.laws.cross_tables_are_one.Goals as goal

pub returns : goal.returns
returns c = λ s name found lines is also. table_one s name found lines is also
