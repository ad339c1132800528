use Rattle.pdn_games.proofs.WriterLemmas.{tags-begin, moves-begin}
use Rattle.pdn_games.proofs.laws.written_moves_begin_games.Goals as goal

pub returns-clause-tags : goal.returns-clause-tags
returns-clause-tags c = tags-begin

pub returns-clause-moves : goal.returns-clause-moves
returns-clause-moves c = moves-begin
