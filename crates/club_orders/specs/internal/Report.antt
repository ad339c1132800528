-- The result of an order: its output, the exit status, and the steps that it adds to the club's history. No promise of
-- the program rests on these definitions.
use Rattle.std.specs.Prelude.{ℕ, List, take, Option, Some, None, Result, Ok, Err}
use Rattle.std.specs.Io.KnownBytes.{Appends}
use Rattle.sqlite.specs.Tree.{Trees}
use Rattle.sqlite.specs.State.{State}
use Rattle.store_tables.specs.Over.{Neighbours}
use Rattle.store_tables.specs.declared.names.Version.{Version}
use Rattle.club_requests.specs.declared.answers.Outcome.TheVariants as outcome
use Rattle.club_requests.specs.declared.refusals.Refusal.{Refusal}
use Rattle.club_rows.specs.Club.{ClubState}
use Rattle.store.specs.declared.fault.AskFault.{AskFault}
use Rattle.store.specs.declared.fault.AskFault.TheVariants as ask_fault
use Rattle.store.specs.declared.upgrade_result.Upgrade.{Upgrade}
use Rattle.store.specs.declared.upgrade_result.Upgrade.TheVariants.{Done, Already}
use Rattle.club_orders.specs.declared.report.Report.{Report}
use Rattle.club_orders.specs.declared.report.Report.TheVariants.{Answered, Shown, OutputFailed}
use Rattle.club_orders.specs.declared.report.Report.TheVariants.{StoreFailed}
use Rattle.club_orders.specs.declared.report.Report.TheVariants.{Upgraded}
use Rattle.club_orders.specs.declared.report.Report.TheVariants.{AlreadyUpgraded}
use Rattle.club_orders.specs.Report.{IsFaultText, IsUpgraded, AreCarried}

-- that line, or a prefix of it if the writer failed, was written
pub record IsFaultTold (report : Report) (before now : Option (List ℕ)) : Type 0 where
  pub text : List ℕ
  pub is_text : IsFaultText report text
  pub count : ℕ
  pub written : Appends before now (take count text)

-- ---- queries

-- the report of a query
abbrev pub ask_report : Result (Option Refusal) AskFault → Report
ask_report (Ok None) = Shown
ask_report (Ok (Some refusal)) = Answered (outcome.Refused refusal)
ask_report (Err ask_fault.Output) = OutputFailed
ask_report (Err (ask_fault.Club fault)) = StoreFailed fault

-- ---- upgrade

abbrev pub upgrade_report : Upgrade → Report
upgrade_report (Done from) = Upgraded from
upgrade_report (Already version) = AlreadyUpgraded version

-- the result of the upgrade of a club of this schema to the schema of these neighbours
pub record IsUpgradeResult (from : Version) (them : Neighbours) (s : ClubState) (report : Report) (new : State) : Type 0
  where
    pub answer : IsUpgraded from report
    pub leaves : (db : Trees) → new.may_leave db → AreCarried from them s report db
