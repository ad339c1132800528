use Rattle.pdn.proofs.FenOneLemmas.{fen-one, fen-well}
use Rattle.pdn.proofs.laws.reads_one_position.Goals as goal

pub returns : goal.returns
returns c = λ p text h. (λ q k. fen-one text p q h k, λ e k. fen-well text p e h k)
