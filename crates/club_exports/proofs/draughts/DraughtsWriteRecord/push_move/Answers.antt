use Rattle.std.proofs.lemmas.Result.{on_ok_weaker}
use Rattle.club_exports.proofs.PdnLemmas.{pdn-adds, pdn-move}
use Rattle.club_exports.proofs.draughts.DraughtsWriteRecord.push_move.Goals as goal

pub returns-clause-written : goal.returns-clause-written
returns-clause-written g c =
    on_ok_weaker c.push.result (λ adds title plies before h. pdn-adds h c.args.seconds adds) c.push.ensures.written

pub returns-clause-begun : goal.returns-clause-begun
returns-clause-begun g c title plies more before h =
    pdn-move h c.args.made.now c.args.seconds c.written_moves_begin_games.ensures.moves more c.push.ensures.begun
