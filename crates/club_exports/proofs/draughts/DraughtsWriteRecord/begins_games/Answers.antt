use Rattle.club_exports.proofs.PdnLemmas.{pdn-begun}
use Rattle.club_exports.proofs.draughts.DraughtsWriteRecord.begins_games.Goals as goal

pub returns : goal.returns
returns c title plies more before now game h = pdn-begun h c.written_moves_begin_games.ensures.moves more
