use Rattle.diagrams.proofs.DraughtsLemmas.{position-same}
use Rattle.diagrams.proofs.laws.tells_draughts.Goals as goal

pub returns : goal.returns
returns c = λ p q on_p on_q same turn. position-same p q on_p on_q same turn
