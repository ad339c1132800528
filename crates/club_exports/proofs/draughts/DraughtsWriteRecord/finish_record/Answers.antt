use Rattle.std.proofs.Common.{refl}
use Rattle.club_exports.proofs.PdnLemmas.{pdn-finished, pdn-ending}
use Rattle.club_exports.proofs.draughts.DraughtsWriteRecord.finish_record.Goals as goal

pub returns-clause-written : goal.returns-clause-written
returns-clause-written g c = λ title plies before written fits.
    (refl, pdn-finished written c.in_ok-finish.ensures.written)

pub returns-clause-begun : goal.returns-clause-begun
returns-clause-begun g c = λ title plies before written. pdn-ending written c.finish.ensures.begun

pub returns-in_err-finish-clause-begun : goal.returns-in_err-finish-clause-begun
returns-in_err-finish-clause-begun g c = λ title plies before written. pdn-ending written c.finish.ensures.begun
