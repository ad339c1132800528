use Rattle.pdn.proofs.BackLemmas.{reads-back}
use Rattle.pdn.proofs.laws.reads_back.Goals as goal

pub returns : goal.returns
returns c = λ p m text legal written. reads-back p m text legal written
