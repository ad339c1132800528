use Rattle.store_tables.proofs.Proved.{clean_before, rows_after, reads_on, ended}
use Rattle.std.proofs.Common.{inr}
use Rattle.club_answers.proofs.ViewedLemmas.{title-fits, begins, adds}
use Rattle.club_answers.proofs.exported.write_record.Goals as goal

pub returns-in_err-export-clause-begun : goal.returns-in_err-export-clause-begun
returns-in_err-export-clause-begun g c clean content game k seen moves judged of =
    let row = (c.in_ok-view.ensures.shows clean content game k seen judged of).row in
    inr (begins g.R.WriteRecord.IsText c.heading_of-heading.ensures row _ _ (c.start.ensures.begun _))

pub returns-in_err-export-clause-reads : goal.returns-in_err-export-clause-reads
returns-in_err-export-clause-reads g c = ended _ c.in_ok-view.ensures.reads

pub returns-in-Err-clause-begun : goal.returns-in-Err-clause-begun
returns-in-Err-clause-begun g c clean content game k seen moves judged of =
    let looked = clean_before c.write_plies.ensures.reads clean in
    let row = (c.in_ok-view.ensures.shows looked content game k seen judged of).row in
    inr
    (begins g.R.WriteRecord.IsText c.heading_of-heading.ensures row _ _
    (c.write_plies.ensures.begun clean content _ game _ _ (rows_after c.in_ok-view.ensures.reads looked content k) moves
    of.legal row.plies c.in_ok-export.ensures.written))

pub returns-in-Err-clause-reads : goal.returns-in-Err-clause-reads
returns-in-Err-clause-reads g c = reads_on c.in_ok-view.ensures.reads c.in-Err.ensures.reads

pub returns-in_err-finish-clause-begun : goal.returns-in_err-finish-clause-begun
returns-in_err-finish-clause-begun g c clean content game k seen moves judged of =
    let looked = clean_before c.write_plies.ensures.reads clean in
    let row = (c.in_ok-view.ensures.shows looked content game k seen judged of).row in
    let written = c.in-Ok.ensures.written clean content _ game _ _
    (rows_after c.in_ok-view.ensures.reads looked content k) moves of.legal row.plies c.in_ok-export.ensures.written in
    inr
    (begins g.R.WriteRecord.IsText c.heading_of-heading.ensures row _ _ (c.finish.ensures.begun _ game.entries _ written))

pub returns-in_err-finish-clause-reads : goal.returns-in_err-finish-clause-reads
returns-in_err-finish-clause-reads g c = ended _ (reads_on c.in_ok-view.ensures.reads c.in-Ok.ensures.reads)

pub returns-clause-begun : goal.returns-clause-begun
returns-clause-begun g c clean content game k seen moves judged of =
    let looked = clean_before c.write_plies.ensures.reads clean in
    let row = (c.in_ok-view.ensures.shows looked content game k seen judged of).row in
    let written = c.in-Ok.ensures.written clean content _ game _ _
    (rows_after c.in_ok-view.ensures.reads looked content k) moves of.legal row.plies c.in_ok-export.ensures.written in
    inr
    (begins g.R.WriteRecord.IsText c.heading_of-heading.ensures row _ _ (c.finish.ensures.begun _ game.entries _ written))

pub returns-then-branch-clause-begun : goal.returns-then-branch-clause-begun
returns-then-branch-clause-begun g c clean content game k seen moves judged of =
    let looked = clean_before c.write_plies.ensures.reads clean in
    let row = (c.in_ok-view.ensures.shows looked content game k seen judged of).row in
    let written = c.in-Ok.ensures.written clean content _ game _ _
    (rows_after c.in_ok-view.ensures.reads looked content k) moves of.legal row.plies c.in_ok-export.ensures.written in
    inr
    (begins g.R.WriteRecord.IsText c.heading_of-heading.ensures row _ _ (c.finish.ensures.begun _ game.entries _ written))

pub returns-then-branch-clause-written : goal.returns-then-branch-clause-written
returns-then-branch-clause-written g c clean content game k seen moves judged of =
    let looked = clean_before c.write_plies.ensures.reads clean in
    let row = (c.in_ok-view.ensures.shows looked content game k seen judged of).row in
    let written = c.in-Ok.ensures.written clean content _ game _ _
    (rows_after c.in_ok-view.ensures.reads looked content k) moves of.legal row.plies c.in_ok-export.ensures.written in
    let by = c.heading_of-heading.ensures in
    adds g.R.WriteRecord.IsText by row _ _ (c.in_ok-finish.ensures.written _ game.entries _ written
    (title-fits g.R.WriteRecord.IsText by row of.legal)).1

pub returns-then-branch-clause-reads : goal.returns-then-branch-clause-reads
returns-then-branch-clause-reads g c = reads_on c.in_ok-view.ensures.reads c.in-Ok.ensures.reads
