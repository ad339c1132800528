use Rattle.sfen.proofs.UsiTextLemmas.{usi_reading-text}
use Rattle.sfen.proofs.writing_laws.reads_moves_back.Goals as goal

pub returns : goal.returns
returns c = λ m on. usi_reading-text m on
