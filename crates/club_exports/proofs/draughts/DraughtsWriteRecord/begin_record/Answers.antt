use Rattle.std.proofs.lemmas.Result.{IfOk-weaker}
use Rattle.club_exports.proofs.PdnLemmas.{pdn-tags}
use Rattle.club_exports.proofs.draughts.DraughtsWriteRecord.begin_record.Goals as goal

pub returns-clause-written : goal.returns-clause-written
returns-clause-written g c =
    IfOk-weaker c.start.result _ _ (λ game written.
    record { head = _; is_head = c.head_of-head.ensures; written = written }) c.start.ensures.written

pub returns-clause-begun : goal.returns-clause-begun
returns-clause-begun g c plies =
    pdn-tags c.head_of-head.ensures plies c.written_moves_begin_games.ensures.tags c.start.ensures.begun
