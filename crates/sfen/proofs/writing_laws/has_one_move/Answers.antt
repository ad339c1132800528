use Rattle.sfen.proofs.UsiTextLemmas.{one-move}
use Rattle.sfen.proofs.writing_laws.has_one_move.Goals as goal

pub returns : goal.returns
returns c = λ text a b first second. one-move text a b first second
