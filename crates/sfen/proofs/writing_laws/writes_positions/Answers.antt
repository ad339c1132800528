use Rattle.sfen.proofs.WrittenLemmas.{position-written}
use Rattle.sfen.proofs.writing_laws.writes_positions.Goals as goal

pub returns : goal.returns
returns c = λ p number sound on low high. position-written p number sound on low high
