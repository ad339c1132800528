use Rattle.pdn.proofs.ReadingValueLemmas.{reading-ok, reading-err}
use Rattle.pdn.proofs.laws.reads_by_rules.Goals as goal

pub returns : goal.returns
returns c = λ p text. (reading-ok p text, reading-err p text)
