-- Every exit status of what was come to is small.
use Rattle.std.proofs.Common.{◌≡◌, ◌⊎◌, ◌≤◌, ℕ, inl, inr, sym, subst, arith}
use Rattle.club_requests.specs.declared.answers.Outcome.{Outcome}
use Rattle.club_requests.specs.declared.answers.Outcome.TheVariants as outcome
use Rattle.club_orders.specs.declared.report.Report.{Report}
use Rattle.club_orders.specs.declared.report.Report.TheVariants.{Ready, Sound, Answered, Shown, OutputFailed}
use Rattle.club_orders.specs.declared.report.Report.TheVariants.{Unopened, StoreFailed, InUse, NotOpened, NoClock, InputFailed}
use Rattle.club_orders.specs.declared.report.Report.TheVariants.{Listening, PortUnavailable, NoMemory, Upgraded}
use Rattle.club_orders.specs.declared.report.Report.TheVariants.{AlreadyUpgraded, Batched, Copied, BackupFailed}
use Rattle.club_orders.specs.declared.report.Report.TheVariants.{Overdue, Unread, ValueRefused}
use Rattle.club_orders.specs.Batches.{batch_status, is_refused, status_of}
use Rattle.club_orders.specs.declared.batched.BatchResults as batch_report
use Rattle.club_orders.specs.Report.{outcome_status, report_status}
use Rattle.store.specs.declared.fault.StoreFault.{StoreFault}
use Rattle.std.specs.Prelude.{Bool, true, false, Option, Some, None}
use Rattle.std.specs.List.{list_any}

outcome_small : (o : Outcome) → outcome_status o ≤ 3
outcome_small (outcome.Accepted answer) = omega (arith)
outcome_small (outcome.Repeated answer) = omega (arith)
outcome_small (outcome.Refused refusal) = omega (arith)

pub batch_small : (fault : Option StoreFault) (any_refused : Bool) → status_of fault any_refused ≤ 3
batch_small (Some fault) any_refused = omega (arith)
batch_small None true = omega (arith)
batch_small None false = omega (arith)

status_small : (report : Report) → report_status report ≤ 3
status_small Ready = omega (arith)
status_small (Sound version) = omega (arith)
status_small (Upgraded from) = omega (arith)
status_small (AlreadyUpgraded version) = omega (arith)
status_small Copied = omega (arith)
status_small (Answered o) = outcome_small o
status_small (Overdue count) = omega (arith)
status_small (Batched batched) = batch_small batched.fault (list_any is_refused batched.outcomes.items)
status_small Shown = omega (arith)
status_small OutputFailed = omega (arith)
status_small BackupFailed = omega (arith)
status_small (Unopened fault) = omega (arith)
status_small (StoreFailed fault) = omega (arith)
status_small InUse = omega (arith)
status_small (NotOpened cause) = omega (arith)
status_small (Unread unread) = omega (arith)
status_small (ValueRefused value) = omega (arith)
status_small NoClock = omega (arith)
status_small InputFailed = omega (arith)
status_small (Listening port) = omega (arith)
status_small PortUnavailable = omega (arith)
status_small NoMemory = omega (arith)

-- what `print_batch` gives
pub batch_printed_small : (batched : batch_report.BatchResults) (status : ℕ)
    → (status ≡ batch_status batched) ⊎ (status ≡ 3) → status ≤ 3
batch_printed_small batched status (inl is) =
    let P : ℕ → Type 0 = λ n. n ≤ 3 in
    subst P (sym is) (batch_small batched.fault (list_any is_refused batched.outcomes.items))
batch_printed_small batched status (inr is) = omega (arith, is)

-- what `print` gives
pub printed_small : (report : Report) (status : ℕ) → (status ≡ report_status report) ⊎ (status ≡ 3) → status ≤ 3
printed_small report status (inl is) = let P : ℕ → Type 0 = λ n. n ≤ 3 in subst P (sym is) (status_small report)
printed_small report status (inr is) = omega (arith, is)
