use Rattle.pdn.proofs.OneMoveLemmas.{reads-one, reads-well}
use Rattle.pdn.proofs.laws.reads_one_move.Goals as goal

pub returns : goal.returns
returns c = λ p text m h. (λ n k. reads-one p text m n h k, λ e k. reads-well p text m e h k)
