-- The explanation of a report, and how it is printed.
use Rattle.std.specs.Prelude.{ℕ, ◌==◌, List, [], ◌∷◌, ◌++◌, take, Option, Some, None, Bool, true}
use Rattle.std.specs.Prelude.{if◌then◌else◌, pos, negsuc, ℤ, codes, decimal}
use Rattle.std.specs.Io.KnownBytes.{Appends}
use Rattle.club_requests.specs.declared.questions.Question.{Question}
use Rattle.club_requests.specs.declared.questions.Question.TheVariants.{Games, GamesJson, RulingOrders}
use Rattle.club_requests.specs.declared.requests.Command.{Command}
use Rattle.club_requests.specs.declared.requests.Command.TheVariants.{NewKey}
use Rattle.club_requests.specs.declared.requests.Request.{Request}
use Rattle.club_requests.specs.declared.refusals.Refusal.{Refusal}
use Rattle.club_requests.specs.declared.refusals.Refusal.TheVariants.{BadValue}
use Rattle.club_requests.specs.declared.answers.Outcome.{Outcome}
use Rattle.club_requests.specs.declared.answers.Outcome.TheVariants as outcome
use Rattle.cli.specs.declared.words.Task.{Task}
use Rattle.cli.specs.declared.words.Task.TheVariants as task
use Rattle.club_check.specs.declared.fault.OpenFault.{OpenFault}
use Rattle.club_check.specs.declared.fault.OpenFault.TheVariants as open_fault
use Rattle.store.specs.declared.fault.StoreFault.{StoreFault}
use Rattle.store.specs.declared.fault.StoreFault.TheVariants as store_fault
use Rattle.club_orders.specs.Causes.{refusal_explained}
use Rattle.club_orders.specs.Lines.{line_of, object_line}
use Rattle.club_orders.specs.declared.causes.Explanation.{Explanation}
use Rattle.club_orders.specs.declared.causes.Explanation.TheVariants as explanation
use Rattle.club_orders.specs.declared.causes.UnreadObject.{UnreadObject}
use Rattle.club_orders.specs.declared.causes.ExplainedFault.{ExplainedFault}
use Rattle.club_orders.specs.declared.causes.ExplainedFault.TheVariants as fault
use Rattle.club_orders.specs.declared.causes.WrongValue.TheVariants.{ListedMember, UnknownMember, SweepLimit}
use Rattle.club_orders.specs.declared.batched.BatchResults.{BatchResults}
use Rattle.club_orders.specs.declared.report.Report.{Report}
use Rattle.club_orders.specs.declared.report.Report.TheVariants.{Ready, Sound, Answered, Shown, OutputFailed}
use Rattle.club_orders.specs.declared.report.Report.TheVariants.{Unopened, StoreFailed, InUse, NotOpened, NoClock}
use Rattle.club_orders.specs.declared.report.Report.TheVariants.{InputFailed}
use Rattle.club_orders.specs.declared.report.Report.TheVariants.{Listening, PortUnavailable, NoMemory, Upgraded}
use Rattle.club_orders.specs.declared.report.Report.TheVariants.{AlreadyUpgraded, Batched, Copied, BackupFailed}
use Rattle.club_orders.specs.declared.report.Report.TheVariants.{Overdue, Unread, ValueRefused}
use Rattle.club_orders.specs.Batches.{IsBatchTold, IsBegunWith}
use Rattle.club_orders.specs.Report.{report_status, report_text, IsFaultText}

-- a list of games names a member who does not exist
abbrev pub games_explained : Refusal → Explanation
games_explained BadValue = explanation.Value ListedMember
games_explained refusal = explanation.Refusal refusal

-- a member who retires, or one of a round robin, does not exist
abbrev pub member_explained : Refusal → Explanation
member_explained BadValue = explanation.Value UnknownMember
member_explained refusal = explanation.Refusal refusal

-- the explanation of a refused query
abbrev pub question_explained : Question → Refusal → Explanation
question_explained (Games listing) refusal = games_explained refusal
question_explained (GamesJson listing) refusal = games_explained refusal
question_explained (RulingOrders bulk) refusal = member_explained refusal
question_explained question refusal = explanation.Refusal refusal

-- the explanation of a refused task; a query of a batch asks for a member of a round robin
abbrev pub task_explained : Task → Refusal → Explanation
task_explained (task.Request command) refusal = refusal_explained refusal command
task_explained (task.Ask question) refusal = question_explained question refusal
task_explained (task.Batch batch) refusal = member_explained refusal
task_explained _ refusal = explanation.Refusal refusal

-- the input that a command lacks: a new key, or a record
abbrev pub command_input_explained : Command → ExplainedFault
command_input_explained (NewKey given) = fault.NoKey
command_input_explained _ = fault.NoRecord

-- fault 76: a batch lacks its orders, and any other task its key or its record
abbrev pub input_explained : Task → ExplainedFault
input_explained (task.Batch batch) = fault.NoOrders
input_explained (task.Request command) = command_input_explained command
input_explained _ = fault.NoRecord

-- fault 70: `init` needs a database without a club, every other task one with a club; an upgrade for an arbiter needs
-- names of tables that no other program has taken
abbrev pub foreign_explained : Task → ExplainedFault
foreign_explained (task.Init has_arbiter) = fault.NotEmpty
foreign_explained (task.Upgrade true) = fault.NamesTaken
foreign_explained _ = fault.NoClub

-- fault 71: schema 1 is older than the program; of any other number it says that the file is newer
abbrev pub schema_explained : ℤ → ExplainedFault
schema_explained (pos n) = if n == 1 then fault.OlderSchema else fault.LaterSchema
schema_explained (negsuc n) = fault.LaterSchema

-- the explanation of a fault in opening the club for a task
abbrev pub opening_explained : Task → OpenFault → ExplainedFault
opening_explained task open_fault.Foreign = foreign_explained task
opening_explained task (open_fault.Schema number) = schema_explained number
opening_explained task (open_fault.Damaged table) = fault.Damaged
opening_explained task open_fault.Store = fault.Store
opening_explained task open_fault.Memory = fault.Memory

-- the explanation of a fault of an open club; 71 is of an arbiter's command, which schema 2 cannot record
abbrev pub stop_explained : StoreFault → ExplainedFault
stop_explained store_fault.Store = fault.Store
stop_explained store_fault.Reopen = fault.Reopen
stop_explained store_fault.Memory = fault.Memory
stop_explained (store_fault.Schema number) = fault.NoArbiter

-- the explanation of an outcome, if it is a refusal
abbrev pub answer_explained : Task → Outcome → Option Explanation
answer_explained task (outcome.Refused refusal) = Some (task_explained task refusal)
answer_explained task _ = None

-- The explanation of a refusal or a fault. A success and the report of a batch have none, and an object that is not
-- read has a line of its own.
abbrev pub report_explained : Task → Report → Option Explanation
report_explained task (Answered outcome) = answer_explained task outcome
report_explained task (Unopened fault) = Some (explanation.Fault (opening_explained task fault))
report_explained task (StoreFailed fault) = Some (explanation.Fault (stop_explained fault))
report_explained task OutputFailed = Some (explanation.Fault fault.NoOutput)
report_explained task BackupFailed = Some (explanation.Fault fault.NoCopy)
report_explained task InUse = Some (explanation.Fault fault.InUse)
report_explained task (NotOpened cause) = Some (explanation.Fault (fault.NotOpened cause))
report_explained task (Unread unread) = None
report_explained task (ValueRefused value) = Some (explanation.Value value)
report_explained task (Overdue count) = Some (explanation.Value SweepLimit)
report_explained task NoClock = Some (explanation.Fault fault.NoClock)
report_explained task InputFailed = Some (explanation.Fault (input_explained task))
report_explained task PortUnavailable = Some (explanation.Fault fault.NoPort)
report_explained task NoMemory = Some (explanation.Fault fault.Memory)
report_explained task Ready = None
report_explained task (Sound version) = None
report_explained task (Upgraded from) = None
report_explained task (AlreadyUpgraded version) = None
report_explained task Copied = None
report_explained task Shown = None
report_explained task (Batched batched) = None
report_explained task (Listening port) = None

-- the line of a report was lost: of a success its output failed, else memory ran out
abbrev pub lost_explained : Report → ExplainedFault
lost_explained report = if report_status report == 0 then fault.NoOutput else fault.Memory

-- the line of an explanation, if there is one
abbrev pub explanation_line : Option Explanation → List ℕ
explanation_line None = []
explanation_line (Some e) = line_of e

-- the object because of which a file was not opened
abbrev pub unread_of : Report → Option UnreadObject
unread_of (Unread unread) = Some unread
unread_of _ = None

-- the line of an object that is not read, else another line
abbrev pub object_line_or : Option UnreadObject → List ℕ → List ℕ
object_line_or (Some unread) line = object_line unread
object_line_or None line = line

-- the line that explains a report
abbrev pub report_line : Task → Report → List ℕ
report_line task report = object_line_or (unread_of report) (explanation_line (report_explained task report))

-- the explanation of the report if the program exits with the report's status, else of the loss of its line
abbrev pub line_at : (status : ℕ) → Task → Report → List ℕ
line_at status task report =
    if status == report_status report then report_line task report
    else line_of (explanation.Fault (lost_explained report))

-- the explanation as a line, if it is requested
abbrev pub second_line : (explains : Bool) → (status : ℕ) → Task → Report → List ℕ
second_line explains status task report = if explains then line_at status task report else []

-- a prefix of the line of the refusal, then one of its explanation if requested; each is whole unless the writer failed
pub record IsRefusalExplained (explains : Bool) (task : Task) (report : Report) (before now : Option (List ℕ)) : Type 0
  where
    pub count : ℕ
    pub more : ℕ
    pub written : Appends before now
        (take count (report_text report) ++ take more (second_line explains 1 task report))

-- the same for a fault, of which the first line may be cut off, too
pub record IsFaultExplained (explains : Bool) (task : Task) (report : Report) (before now : Option (List ℕ)) : Type 0
  where
    pub text : List ℕ
    pub is_text : IsFaultText report text
    pub count : ℕ
    pub more : ℕ
    pub written : Appends before now
        (take count text ++ take more (second_line explains 3 task report))

-- ---- batches

-- the explanation of an order of a batch behind the number of its line, if the order was refused
abbrev pub order_explained : ℕ → Command → Outcome → List ℕ
order_explained number command (outcome.Refused refusal) =
    decimal number ++ (codes " " ++ line_of (refusal_explained refusal command))
order_explained number command _ = []

-- one explanation for each refused order, with the number at the same index
abbrev pub orders_explained : List ℕ → List Request → List Outcome → List ℕ
orders_explained [] requests outcomes = []
orders_explained (number ∷ numbers) [] outcomes = []
orders_explained (number ∷ numbers) (request ∷ requests) [] = []
orders_explained (number ∷ numbers) (request ∷ requests) (outcome ∷ outcomes) =
    order_explained number request.command outcome ++ orders_explained numbers requests outcomes

-- the explanation of the fault that ended a batch; without one its output failed
abbrev pub batch_stop : Option StoreFault → ExplainedFault
batch_stop (Some stopped) = stop_explained stopped
batch_stop None = fault.NoOutput

-- the explanation of the end of a batch: with status 3 that of its fault
abbrev pub end_explained : (status : ℕ) → Option StoreFault → List ℕ
end_explained status stopped = if status == 3 then line_of (explanation.Fault (batch_stop stopped)) else []

-- the explanations of a batch: of its end, and then of its refused orders
abbrev pub batch_explained : (explains : Bool) → (status : ℕ) → List Request → BatchResults → List ℕ
batch_explained explains status requests batched =
    if explains
    then end_explained status batched.fault ++ orders_explained batched.numbers.items requests batched.outcomes.items
    else []

-- the output of a batch with exit status 3, and then its explanations, or a prefix of these if the writer failed
pub record IsBatchFaultExplained (explains : Bool) (requests : List Request) (batched : BatchResults)
    (out out_now err err_now : Option (List ℕ)) : Type 0
  where
    pub told_up_to : Option (List ℕ)
    pub told : IsBatchTold batched out out_now err told_up_to
    pub explained : IsBegunWith told_up_to err_now (batch_explained explains 3 requests batched)
