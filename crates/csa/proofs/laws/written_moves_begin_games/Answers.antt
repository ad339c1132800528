use Rattle.csa.proofs.WriterLemmas.{lines-begin, moves-begin}
use Rattle.csa.proofs.laws.written_moves_begin_games.Goals as goal

pub returns-clause-lines : goal.returns-clause-lines
returns-clause-lines c = lines-begin

pub returns-clause-moves : goal.returns-clause-moves
returns-clause-moves c = moves-begin
