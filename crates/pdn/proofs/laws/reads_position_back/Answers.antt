use Rattle.pdn.proofs.FenBoardLemmas.{fen-back}
use Rattle.pdn.proofs.laws.reads_position_back.Goals as goal

pub returns : goal.returns
returns c = λ p on_board. fen-back p on_board
