use Rattle.diagrams.proofs.BodLemmas.{position-same}
use Rattle.diagrams.proofs.laws.tells_bod.Goals as goal

pub returns : goal.returns
returns c = λ p q sound_p sound_q on_p on_q same. position-same p q sound_p sound_q on_p on_q same
