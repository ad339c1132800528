use Rattle.sfen.proofs.WrittenLemmas.{position-alone}
use Rattle.sfen.proofs.writing_laws.writes_positions_alone.Goals as goal

pub returns : goal.returns
returns c = λ p sound on. position-alone p sound on
