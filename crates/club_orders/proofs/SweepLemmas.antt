-- What a sweep with a limit reports, by the report of the sweep alone.
use Rattle.std.proofs.Common.{◌≤◌, ◌≡◌, ℕ}
use Rattle.club_rows.specs.Club.{ClubState}
use Rattle.club_core.specs.Answer.{answered, outcome_of}
use Rattle.club_changes.specs.Steps.{club_step}
use Rattle.club_orders.specs.declared.report.Report.{Report}
use Rattle.club_orders.specs.declared.report.Report.TheVariants.{Answered, Overdue, StoreFailed, Unopened}
use Rattle.club_orders.specs.Report.{Answers}
use Rattle.club_orders.specs.Sweeps.{IsBoundedSweep, overdue_count, sweep_at}

-- the sweep has its outcome, and no more games than the limit were overdue
pub bounded : (s : ClubState) (moment most : ℕ) (report : Report) → overdue_count s moment ≤ most
    → Answers report (λ outcome. outcome_of outcome ≡ answered (club_step s (sweep_at moment)))
    → IsBoundedSweep s moment most report
bounded s moment most (Answered outcome) within is = (is, within)
bounded s moment most (Overdue count) within is = absurd is
bounded s moment most (Unopened fault) within is = is
bounded s moment most (StoreFailed fault) within is = is
bounded s moment most _ within is = absurd is
