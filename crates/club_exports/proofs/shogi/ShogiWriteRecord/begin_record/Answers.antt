use Rattle.std.proofs.lemmas.Result.{IfOk-weaker}
use Rattle.club_exports.proofs.CsaLemmas.{csa-lines}
use Rattle.club_exports.proofs.shogi.ShogiWriteRecord.begin_record.Goals as goal

pub returns-clause-written : goal.returns-clause-written
returns-clause-written g c =
    IfOk-weaker c.start.result _ _ (λ game written.
    record { head = _; is_head = c.head_of-head.ensures; written = written }) c.start.ensures.written

pub returns-clause-begun : goal.returns-clause-begun
returns-clause-begun g c plies =
    csa-lines c.head_of-head.ensures c.written_moves_begin_games.ensures.lines c.start.ensures.begun plies
