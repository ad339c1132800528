use Rattle.club_exports.proofs.CsaLemmas.{csa-begun}
use Rattle.club_exports.proofs.shogi.ShogiWriteRecord.begins_games.Goals as goal

pub returns : goal.returns
returns c title plies more before now game h = csa-begun h c.written_moves_begin_games.ensures.moves more
