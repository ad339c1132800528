-- A sweep with a limit: if more games are overdue than it allows, none is ended and their number is reported.
use Rattle.std.specs.Prelude.{◌≡◌, ◌≤◌, ◌<◌, ℕ}
use Rattle.club_requests.specs.declared.requests.Command.TheVariants.{Sweep}
use Rattle.club_requests.specs.Outcome.{Outcome, accepted, games_swept}
use Rattle.club_core.specs.Answer.{answered, outcome_of}
use Rattle.club_core.specs.State.{Request}
use Rattle.club_rows.specs.Club.{ClubState}
use Rattle.club_changes.specs.Steps.{club_step}
use Rattle.club_orders.specs.Report.{Answers, given}
use Rattle.club_orders.specs.declared.report.Report.{Report}
use Rattle.club_orders.specs.declared.report.Report.TheVariants.{Overdue}

-- the number of games that a sweep with this outcome ends
abbrev pub swept_count : Outcome (Unit {0}) → ℕ
swept_count (accepted s (games_swept count)) = count
swept_count _ = 0

-- a sweep at this timestamp
abbrev pub sweep_at : ℕ → Request
sweep_at moment = given Sweep moment

-- the number of games that a sweep at this timestamp ends
abbrev pub overdue_count : ClubState → (moment : ℕ) → ℕ
overdue_count s moment = swept_count (answered (club_step s (sweep_at moment)))

-- At most this many games were overdue, and the sweep has its outcome; or more were, and the report is their number; or
-- a call of the database failed, or memory ran out.
abbrev pub IsBoundedSweep : ClubState → (moment most : ℕ) → Report → Type 0
IsBoundedSweep s moment most (Overdue count) = (count ≡ overdue_count s moment) × (most < count)
IsBoundedSweep s moment most report =
    Answers report (λ outcome.
    (outcome_of outcome ≡ answered (club_step s (sweep_at moment))) × (overdue_count s moment ≤ most))
