use Rattle.club_answers.proofs.RecordLemmas.{record_added, record_begun}
use Rattle.club_answers.proofs.answers.write_record.Goals as goal

pub returns-in-Ok-true-clause-shown : goal.returns-in-Ok-true-clause-shown
returns-in-Ok-true-clause-shown g c clean s moment is_club k =
    record_added s c.args.game _ _ (rw c.in-Ok-true.field-0-test at (c.in-Ok-true.ensures.written clean s is_club k))

pub returns-in-Ok-true-clause-begun : goal.returns-in-Ok-true-clause-begun
returns-in-Ok-true-clause-begun g c clean s moment is_club k =
    record_begun s c.args.game _ _ (c.export_game.ensures.begun clean s is_club k)

pub returns-in-Ok-false-clause-begun : goal.returns-in-Ok-false-clause-begun
returns-in-Ok-false-clause-begun g c clean s moment is_club k =
    record_begun s c.args.game _ _ (c.export_game.ensures.begun clean s is_club k)

pub returns-in-Err-clause-begun : goal.returns-in-Err-clause-begun
returns-in-Err-clause-begun g c clean s moment is_club k =
    record_begun s c.args.game _ _ (c.export_game.ensures.begun clean s is_club k)
