-- The result of an order: its output, the exit status, and the steps that it adds to the club's history.
use Rattle.std.specs.Prelude.{◌≡◌, ◌≢◌, ◌⊎◌, ℕ, List, [], ◌∷◌, ◌++◌, Option, Some, None, Result, Ok, Err}
use Rattle.std.specs.Prelude.{Bool, true, false, codes, decimal, ⊤}
use Rattle.sqlite.specs.Tree.{Trees}
use Rattle.store_tables.specs.Contents.{IsEmpty}
use Rattle.store_tables.specs.Migrations.{LeavesInVersion}
use Rattle.store_tables.specs.Over.{LeavesBeside, Neighbours, alone}
use Rattle.store_tables.specs.Room.{LeavesNoClub}
use Rattle.store_tables.specs.declared.names.Version.{Version}
use Rattle.store_tables.specs.Tables.{IsServed}
use Rattle.club_requests.specs.declared.requests.Who.TheVariants.{Officer}
use Rattle.club_requests.specs.declared.requests.Command.{Command}
use Rattle.club_requests.specs.declared.requests.Command.TheVariants.{Sweep}
use Rattle.club_requests.specs.declared.answers.Outcome.{Outcome}
use Rattle.club_requests.specs.declared.answers.Outcome.TheVariants as outcome
use Rattle.club_requests.specs.AnswerText.{outcome_text}
use Rattle.club_core.specs.Answer.{answered, outcome_of}
use Rattle.club_core.specs.State.{Request, takes}
use Rattle.club_rows.specs.Club.{ClubState, tables}
use Rattle.club_rows.specs.FirstSchema.{tables_at, upgraded_to}
use Rattle.club_check.specs.declared.fault.OpenFault.{OpenFault}
use Rattle.club_check.specs.declared.fault.OpenFault.TheVariants as open_fault
use Rattle.store.specs.declared.fault.StoreFault.TheVariants as store_fault
use Rattle.club_check.specs.FaultText.{open_fault_text}
use Rattle.store.specs.FaultText.{store_fault_text}
use Rattle.store.specs.Clubs.{version_with}
use Rattle.store.specs.Histories.{HistoryStep, IsReachable, answered_session, cut_session, upgraded}
use Rattle.club_changes.specs.Steps.{club_step, request}
use Rattle.club_requests.specs.declared.questions.Question.{Question}
use Rattle.club_answers.specs.AnswerTexts.{HasWrittenAnswer, HasShownSome}
use Rattle.club_orders.specs.declared.report.Report.{Report}
use Rattle.club_orders.specs.declared.report.Report.TheVariants.{Ready, Sound, Answered, Shown, OutputFailed}
use Rattle.club_orders.specs.declared.report.Report.TheVariants.{Unopened, StoreFailed, InUse, NotOpened, NoClock}
use Rattle.club_orders.specs.declared.report.Report.TheVariants.{InputFailed}
use Rattle.club_orders.specs.declared.report.Report.TheVariants.{Listening, PortUnavailable, NoMemory, Upgraded}
use Rattle.club_orders.specs.declared.report.Report.TheVariants.{AlreadyUpgraded, Batched, Copied, BackupFailed}
use Rattle.club_orders.specs.declared.report.Report.TheVariants.{Overdue, Unread, ValueRefused}
use Rattle.club_orders.specs.Batches.{batch_sessions, batch_status, fault_line}
use Rattle.club_orders.specs.Recorded.{IfRecorded, can_ask}
use Rattle.cli.specs.declared.batches.Batch.{Batch}
use Rattle.cli.specs.declared.words.Task.{Task}
use Rattle.cli.specs.declared.words.Task.TheVariants as task

-- the line that is printed; the answer to a query and the lines of a batch are printed separately
abbrev pub report_text : Report → List ℕ
report_text Ready = codes "ready\n"
report_text (Sound version) = codes "sound\n"
report_text (Upgraded from) = codes "upgraded\n"
report_text (AlreadyUpgraded version) = codes "repeated upgrade\n"
report_text Copied = codes "copied\n"
report_text (Answered outcome) = outcome_text outcome ++ codes "\n"
report_text (Overdue count) = codes "overdue " ++ decimal count ++ codes "\n"
report_text (Batched batched) = fault_line batched.fault
report_text Shown = []
report_text OutputFailed = codes "store 77 Output\n"
report_text BackupFailed = codes "store 77 Output\n"
report_text (Unopened fault) = codes "store " ++ open_fault_text fault ++ codes "\n"
report_text (StoreFailed fault) = codes "store " ++ store_fault_text fault ++ codes "\n"
report_text InUse = codes "store 73 Store\n"
report_text (NotOpened cause) = codes "store 73 Store\n"
report_text (Unread unread) = codes "store 73 Store\n"
report_text (ValueRefused value) = codes "refused 65 BadValue\n"
report_text NoClock = codes "store 76 Input\n"
report_text InputFailed = codes "store 76 Input\n"
report_text (Listening port) = codes "listening 127.0.0.1:" ++ decimal port ++ codes "\n"
report_text PortUnavailable = codes "store 76 Input\n"
report_text NoMemory = codes "store 75 Memory\n"

-- 0 for an accepted or repeated request, 1 for a refused one
abbrev pub outcome_status : Outcome → ℕ
outcome_status (outcome.Accepted answer) = 0
outcome_status (outcome.Repeated answer) = 0
outcome_status (outcome.Refused refusal) = 1

-- 0 for success, 1 for a refusal, 3 for a fault
abbrev pub report_status : Report → ℕ
report_status Ready = 0
report_status (Sound version) = 0
report_status (Upgraded from) = 0
report_status (AlreadyUpgraded version) = 0
report_status Copied = 0
report_status (Answered outcome) = outcome_status outcome
report_status (Overdue count) = 1
report_status (Batched batched) = batch_status batched
report_status Shown = 0
report_status OutputFailed = 3
report_status BackupFailed = 3
report_status (Unopened fault) = 3
report_status (StoreFailed fault) = 3
report_status InUse = 3
report_status (NotOpened cause) = 3
report_status (Unread unread) = 3
report_status (ValueRefused value) = 1
report_status NoClock = 3
report_status InputFailed = 3
report_status (Listening port) = 0
report_status PortUnavailable = 3
report_status NoMemory = 3

-- the error line with exit status 3: the report itself, out of memory, or that the output failed after a success
abbrev pub IsFaultText : Report → List ℕ → Type 0
IsFaultText report text =
    ((report_status report ≢ 0) × (text ≡ report_text report))
    ⊎ ((text ≡ codes "store 75 Memory\n") ⊎ ((report_status report ≡ 0) × (text ≡ codes "store 77 Output\n")))

-- the report on a file that was not opened: another program uses it, or it cannot be opened
abbrev pub IsNotOpened : Report → Type 0
IsNotOpened InUse = Unit {0}
IsNotOpened (NotOpened cause) = Unit {0}
IsNotOpened (Unread unread) = Unit {0}
IsNotOpened _ = ⊥

-- the result of a session that did not begin: its files were not opened, or hold no club
abbrev pub IsUnopened : {A : Type 0} → Result A Report → Type 0
IsUnopened (Ok a) = ⊥
IsUnopened (Err report) = IsNotOpened report ⊎ (report ≡ Unopened open_fault.Foreign)

-- ---- effect on the history of the club

-- a command of the officer
abbrev pub given : Command → ℕ → Request
given command moment = request Officer command moment

-- the session of one request in the report: answered, or cut off by a fault; none if schema 2 cannot record the request
abbrev pub request_sessions : Request → Report → List HistoryStep
request_sessions asked (Answered outcome) = answered_session asked outcome ∷ []
request_sessions asked (StoreFailed (store_fault.Schema number)) = []
request_sessions asked (StoreFailed fault) = cut_session asked ∷ []
request_sessions asked _ = []

-- the upgrade in the report to this schema: answered or cut off; a later schema that was found stays
abbrev pub upgrade_of : (to : Version) → Report → HistoryStep
upgrade_of to (Upgraded from) = upgraded to true
upgrade_of to (AlreadyUpgraded version) = upgraded version true
upgrade_of to _ = upgraded to false

-- the schema that an upgrade to this schema leads to
abbrev pub schema_led_to : (to : Version) → Report → Version
schema_led_to to (AlreadyUpgraded version) = version
schema_led_to to _ = to

-- The schemas in which an upgrade to `to` leaves a file that is in one of these schemas. If it was cut off, perhaps the
-- one that was there.
abbrev pub schemas_after_upgrade : (to : Version) → Report → List Version → List Version
schemas_after_upgrade to (Upgraded from) before = to ∷ []
schemas_after_upgrade to (AlreadyUpgraded version) before = version ∷ []
schemas_after_upgrade to _ before = to ∷ before

-- The schemas in which a task leaves a file that is in one of these schemas. Only an upgrade changes the schema.
abbrev pub schemas_after : Task → Report → List Version → List Version
schemas_after (task.Upgrade has_arbiter) report before =
    schemas_after_upgrade (version_with has_arbiter) report before
schemas_after _ report before = before

-- The schema of the neighbours in whose presence the history goes on: the one that an upgrade leads to; for other tasks
-- one that can be served.
abbrev pub IsLedTo : Task → Report → Version → Type 0
IsLedTo (task.Upgrade has_arbiter) report version = version ≡ schema_led_to (version_with has_arbiter) report
IsLedTo _ report version = IsServed version

-- creating a club and reading add no step
abbrev pub task_sessions : Task → ℕ → Report → List HistoryStep
task_sessions (task.Request command) moment report = request_sessions (given command moment) report
task_sessions (task.SweepAtMost most) moment report = request_sessions (given Sweep moment) report
task_sessions (task.Upgrade has_arbiter) moment report = upgrade_of (version_with has_arbiter) report ∷ []
task_sessions (task.Batch batch) moment report = batch_sessions batch.requests.items report
task_sessions _ moment report = []

-- the command has this outcome, or a call of the database failed, or memory ran out
abbrev pub Answers : Report → (Outcome → Type 0) → Type 0
Answers (Answered outcome) Holds = Holds outcome
Answers (Unopened fault) Holds = (fault ≡ open_fault.Store) ⊎ (fault ≡ open_fault.Memory)
Answers (StoreFailed fault) Holds = (fault ≡ store_fault.Store) ⊎ (fault ≡ store_fault.Memory)
Answers _ Holds = ⊥

-- The command has the outcome of the club's specification, or a call failed, or memory ran out. If the club cannot
-- record the command, the fault says so.
abbrev pub AnswersCommand : ClubState → Command → (moment : ℕ) → Report → Type 0
AnswersCommand s command moment report =
    IfRecorded (takes s (given command moment).command) report
    (Answers report (λ outcome. outcome_of outcome ≡ answered (club_step s (given command moment))))

-- ---- properties of one kind of task

-- a property that only the creation of a club must have, about its schema
abbrev pub IfInit : Task → (Version → Type 0) → Type 0
IfInit (task.Init has_arbiter) Holds = Holds (version_with has_arbiter)
IfInit _ Holds = ⊤

-- a property that only an upgrade must have, about the schema that is requested
abbrev pub IfUpgrade : Task → (Version → Type 0) → Type 0
IfUpgrade (task.Upgrade has_arbiter) Holds = Holds (version_with has_arbiter)
IfUpgrade _ Holds = ⊤

-- a property that only a single request must have, about its command
abbrev pub IfRequest : Task → (Command → Type 0) → Type 0
IfRequest (task.Request command) Holds = Holds command
IfRequest _ Holds = ⊤

-- a property that only a sweep with a limit must have, about its limit
abbrev pub IfBoundedSweep : Task → (ℕ → Type 0) → Type 0
IfBoundedSweep (task.SweepAtMost most) Holds = Holds most
IfBoundedSweep _ Holds = ⊤

-- a property that only a batch must have
abbrev pub IfBatch : Task → (Batch → Type 0) → Type 0
IfBatch (task.Batch batch) Holds = Holds batch
IfBatch _ Holds = ⊤

-- a property that only a query must have
abbrev pub IfAsk : Task → (Question → Type 0) → Type 0
IfAsk (task.Ask question) Holds = Holds question
IfAsk _ Holds = ⊤

-- a property that only `verify` must have
abbrev pub IfVerify : Task → Type 0 → Type 0
IfVerify task.Verify Holds = Holds
IfVerify _ Holds = ⊤

-- only a query writes to the output that it is given
abbrev pub writes : Task → Bool
writes (task.Ask question) = true
writes _ = false

-- The answer to the query was written; or it is refused and nothing was; or the writer or a call failed, or memory ran
-- out, and a prefix of the answer was written.
abbrev pub Shows : ClubState → (moment : ℕ) → Question → Option (List ℕ) → Option (List ℕ) → Report → Type 0
Shows s moment question before now Shown = HasWrittenAnswer s moment question None before now
Shows s moment question before now (Answered (outcome.Refused refusal)) =
    HasWrittenAnswer s moment question (Some refusal) before now
Shows s moment question before now OutputFailed = HasShownSome s moment question before now
Shows s moment question before now (Unopened fault) =
    ((fault ≡ open_fault.Store) ⊎ (fault ≡ open_fault.Memory)) × (now ≡ before)
Shows s moment question before now (StoreFailed fault) =
    ((fault ≡ store_fault.Store) ⊎ (fault ≡ store_fault.Memory)) × HasShownSome s moment question before now
Shows s moment question before now _ = ⊥

-- The query is answered so. If the club has no tables for it, the fault says so, and nothing is written.
abbrev pub AnswersQuery : ClubState → (moment : ℕ) → Question → Option (List ℕ) → Option (List ℕ) → Report → Type 0
AnswersQuery s moment question before now report =
    IfRecorded (can_ask s question) report (Shows s moment question before now report)
    × (can_ask s question ≡ false → now ≡ before)

-- ---- creation

-- a table of a club exists already, or a call of the database failed
abbrev pub IsExisting : OpenFault → Type 0
IsExisting fault = (fault ≡ open_fault.Foreign) ⊎ (fault ≡ open_fault.Store)

-- a club was created; or there is one already, or a call of the database failed
abbrev pub IsCreation : Report → Type 0
IsCreation Ready = ⊤
IsCreation (Unopened fault) = IsExisting fault
IsCreation _ = ⊥

-- a club was created, or a call of the database failed
abbrev pub IsCreated : Report → Type 0
IsCreated Ready = ⊤
IsCreated (Unopened fault) = fault ≡ open_fault.Store
IsCreated _ = ⊥

-- ---- verification

-- the file is sound and of this schema; or a call of the database failed, or memory ran out
abbrev pub IsPassed : Version → Report → Type 0
IsPassed version (Sound found) = found ≡ version
IsPassed version (Unopened fault) = (fault ≡ open_fault.Store) ⊎ (fault ≡ open_fault.Memory)
IsPassed version _ = ⊥

-- ---- backup

-- the copy was made; or a call of the copy's or of the club's database failed, or memory ran out
abbrev pub IsOfCopy : Report → Type 0
IsOfCopy Copied = ⊤
IsOfCopy BackupFailed = ⊤
IsOfCopy (StoreFailed fault) = (fault ≡ store_fault.Store) ⊎ (fault ≡ store_fault.Memory)
IsOfCopy _ = ⊥

-- if an upgrade accepted the file, this holds for the schema version that it found
abbrev pub IfUpgradeOf : Report → (Version → Type 0) → Type 0
IfUpgradeOf (Upgraded from) Holds = Holds from
IfUpgradeOf (AlreadyUpgraded version) Holds = Holds version
IfUpgradeOf (Unopened fault) Holds = ⊤
IfUpgradeOf _ Holds = ⊥

-- the file was of this schema and was upgraded; or a call of the database failed, or memory ran out
abbrev pub IsUpgraded : (from : Version) → Report → Type 0
IsUpgraded from (Upgraded found) = found ≡ from
IsUpgraded from (Unopened fault) = (fault ≡ open_fault.Store) ⊎ (fault ≡ open_fault.Memory)
IsUpgraded from _ = ⊥

-- the tables of the same state in the schema of the neighbours; if the upgrade failed, perhaps in the earlier schema
abbrev pub AreCarried : (from : Version) → Neighbours → ClubState → Report → Trees → Type 0
AreCarried from them s (Upgraded found) trees = LeavesBeside them (tables (upgraded_to them.version s)) trees
AreCarried from them s _ trees =
    LeavesInVersion from them (tables_at from s) trees
    ⊎ LeavesBeside them (tables (upgraded_to them.version s)) trees

-- the file was of this schema already; or a call of the database failed, or memory ran out
abbrev pub IsRepeated : Version → Report → Type 0
IsRepeated version (AlreadyUpgraded found) = found ≡ version
IsRepeated version (Unopened fault) = (fault ≡ open_fault.Store) ⊎ (fault ≡ open_fault.Memory)
IsRepeated version _ = ⊥

-- holds for the fault, if the report is that the file was not accepted
abbrev pub IfUnopened : Report → (OpenFault → Type 0) → Type 0
IfUnopened (Unopened fault) Holds = Holds fault
IfUnopened _ Holds = ⊤

-- holds if the file was accepted
abbrev pub IfTaken : Report → Type 0 → Type 0
IfTaken (Unopened fault) Holds = ⊤
IfTaken _ Holds = Holds

-- the report is that the file was not accepted, with such a fault
abbrev pub OnlyUnopened : Report → (OpenFault → Type 0) → Type 0
OnlyUnopened (Unopened fault) Holds = Holds fault
OnlyUnopened _ Holds = ⊥

-- There is an empty club of this schema; or none was created, and there is no table, or an empty club after all.
abbrev pub IsBegun : Version → Report → Trees → Type 0
IsBegun version Ready trees = IsReachable version version (alone version) [] trees
IsBegun version _ trees = IsEmpty trees ⊎ IsReachable version version (alone version) [] trees

-- The same for a club that is created beside these foreign tables, in their schema.
abbrev pub IsBegunBehind : Neighbours → Report → Trees → Type 0
IsBegunBehind them Ready trees = IsReachable them.version them.version them [] trees
IsBegunBehind them _ trees = LeavesNoClub them trees ⊎ IsReachable them.version them.version them [] trees
