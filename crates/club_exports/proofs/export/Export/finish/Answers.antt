use Rattle.std.proofs.lemmas.Result.{IfOk-weaker}
use Rattle.club_exports.specs.Title.{timed}
use Rattle.club_exports.proofs.Timed.{timed-made}
use Rattle.club_exports.proofs.export.Export.finish.Goals as goal

pub returns-clause-written : goal.returns-clause-written
returns-clause-written g c =
    IfOk-weaker c.finish_record.result _ _ (λ done written title entries before is fits.
    written title (timed title.start entries) before is.written
    (rw (timed-made title.start entries) fits)) c.finish_record.ensures.written
