use Rattle.pdn.proofs.OffsetLemmas.{longest-beginning}
use Rattle.pdn.proofs.laws.says_longest_beginning.Goals as goal

pub returns : goal.returns
returns c = λ text bytes e. longest-beginning text bytes e
