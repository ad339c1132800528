use Rattle.diagrams.proofs.ShogiLemmas.{position-same}
use Rattle.diagrams.proofs.laws.tells_shogi.Goals as goal

pub returns : goal.returns
returns c = λ p q sound_p sound_q on_p on_q same turn. position-same p q sound_p sound_q on_p on_q same turn
