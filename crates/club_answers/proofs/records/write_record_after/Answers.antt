use Rattle.std.proofs.Common.{inl}
use Rattle.club_answers.proofs.RecordLemmas.{behind_added, behind_begun}
use Rattle.sqlite.specs.Held.{state}
use Rattle.store_tables.proofs.Proved.{read_nothing}
use Rattle.club_answers.proofs.records.write_record_after.Goals as goal

pub returns-in_err-write_front-clause-reads : goal.returns-in_err-write_front-clause-reads
returns-in_err-write_front-clause-reads g c = read_nothing _ (state g.S.Store c.args.conn.now)

pub returns-in_err-write_front-clause-begun : goal.returns-in_err-write_front-clause-begun
returns-in_err-write_front-clause-begun g c clean s is_club k = inl c.write_front.ensures.begun

pub returns-in-Ok-true-clause-written : goal.returns-in-Ok-true-clause-written
returns-in-Ok-true-clause-written g c clean s is_club k =
    behind_added s c.args.id _ _ _ _ c.in_ok-write_front.ensures.written c.from.ensures c.in-Ok-true.field-0-test
    (c.in-Ok-true.ensures.written clean s is_club k)

pub returns-in-Ok-true-clause-begun : goal.returns-in-Ok-true-clause-begun
returns-in-Ok-true-clause-begun g c clean s is_club k =
    behind_begun s c.args.id _ _ _ _ c.in_ok-write_front.ensures.written c.from.ensures
    (c.export_game.ensures.begun clean s is_club k)

pub returns-in-Ok-false-clause-begun : goal.returns-in-Ok-false-clause-begun
returns-in-Ok-false-clause-begun g c clean s is_club k =
    behind_begun s c.args.id _ _ _ _ c.in_ok-write_front.ensures.written c.from.ensures
    (c.export_game.ensures.begun clean s is_club k)

pub returns-in-Err-clause-begun : goal.returns-in-Err-clause-begun
returns-in-Err-clause-begun g c clean s is_club k =
    behind_begun s c.args.id _ _ _ _ c.in_ok-write_front.ensures.written c.from.ensures
    (c.export_game.ensures.begun clean s is_club k)
