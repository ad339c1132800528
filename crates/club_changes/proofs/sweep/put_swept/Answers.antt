use Rattle.club_changes.proofs.SweptTables.{swept_decided}
use Rattle.club_changes.proofs.sweep.put_swept.Goals as goal

pub returns-clause-step : goal.returns-clause-step
returns-clause-step c s swept =
    swept_decided s c.args.moment c.args.rows swept _ (search c.changes_at-changes.ensures)
