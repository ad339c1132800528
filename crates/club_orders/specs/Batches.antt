-- A batch: queries that must not be refused, then requests in turn up to the first fault. Its output, and its effect on
-- the club.
use Rattle.std.specs.Prelude.{◌≡◌, ◌⊎◌, ◌≤◌, ℕ, Bool, true, false, List, [], ◌∷◌, ◌++◌, length, map, take, decimal}
use Rattle.std.specs.Prelude.{Option, Some, None, IsSome, IfSome, codes}
use Rattle.std.specs.List.{list_any}
use Rattle.std.specs.Io.KnownBytes.{Appends}
use Rattle.club_requests.specs.declared.answers.Outcome.{Outcome}
use Rattle.club_requests.specs.declared.answers.Outcome.TheVariants as outcome
use Rattle.club_requests.specs.declared.refusals.Refusal.{Refusal}
use Rattle.club_requests.specs.declared.requests.Request.{Request}
use Rattle.club_requests.specs.AnswerText.{outcome_text}
use Rattle.club_core.specs.Answer.{answered, outcome_of, request_of}
use Rattle.club_rows.specs.Club.{ClubState}
use Rattle.club_requests.specs.declared.questions.Question.{Question}
use Rattle.club_answers.specs.AnswerTexts.{IsRefused, IsText}
use Rattle.club_check.specs.declared.fault.OpenFault.TheVariants as open_fault
use Rattle.store.specs.declared.fault.StoreFault.{StoreFault}
use Rattle.store.specs.declared.fault.StoreFault.TheVariants as store_fault
use Rattle.store.specs.FaultText.{store_fault_text}
use Rattle.store.specs.Histories.{HistoryStep, session_of}
use Rattle.store.specs.Runs.{club_outcomes}
use Rattle.cli.specs.declared.batches.Batch.{Batch}
use Rattle.club_orders.specs.Recorded.{IfRecorded, IsUnasked, takes_all}
use Rattle.club_orders.specs.declared.batched.BatchResults.{BatchResults}
use Rattle.club_orders.specs.declared.report.Report.{Report}
use Rattle.club_orders.specs.declared.report.Report.TheVariants as report

-- ---- output

-- the line of one request: its number and outcome
abbrev pub answer_line : ℕ → Outcome → List ℕ
answer_line number outcome = decimal number ++ (codes " " ++ (outcome_text outcome ++ codes "\n"))

-- one line for each outcome, with the number at the same index
abbrev pub answer_lines : List ℕ → List Outcome → List ℕ
answer_lines [] outcomes = []
answer_lines (number ∷ numbers) [] = []
answer_lines (number ∷ numbers) (outcome ∷ outcomes) = answer_line number outcome ++ answer_lines numbers outcomes

-- the lines of all requests of a batch that have an outcome
abbrev pub lines_of : BatchResults → List ℕ
lines_of batched = answer_lines batched.numbers.items batched.outcomes.items

-- the line of a fault
abbrev pub fault_text : StoreFault → List ℕ
fault_text fault = codes "store " ++ store_fault_text fault ++ codes "\n"

-- the line of the fault that ended a batch, if there was one
abbrev pub fault_line : Option StoreFault → List ℕ
fault_line None = []
fault_line (Some fault) = fault_text fault

-- the request was refused
abbrev pub is_refused : Outcome → Bool
is_refused (outcome.Accepted answer) = false
is_refused (outcome.Repeated answer) = false
is_refused (outcome.Refused refusal) = true

-- 3 if a fault ended the batch, else 1 if a request was refused, else 0
abbrev pub status_of : Option StoreFault → Bool → ℕ
status_of (Some fault) any_refused = 3
status_of None true = 1
status_of None false = 0

-- the exit status of a batch
abbrev pub batch_status : BatchResults → ℕ
batch_status batched = status_of batched.fault (list_any is_refused batched.outcomes.items)

-- a text, or a prefix of it if the writer failed, was written
pub record IsBegunWith (before now : Option (List ℕ)) (text : List ℕ) : Type 0 where
  pub front : List ℕ
  pub rest : List ℕ
  pub is : text ≡ front ++ rest
  pub written : Appends before now front

-- the fault that ended the batch was printed, or that there was no memory to print it
pub record IsFaultToldOf (fault : StoreFault) (before now : Option (List ℕ)) : Type 0 where
  pub text : List ℕ
  pub is_text : (text ≡ fault_text fault) ⊎ (text ≡ codes "store 75 Memory\n")
  pub count : ℕ
  pub written : Appends before now (take count text)

-- it was printed that a line could not be built or written
pub record IsUnprinted (before now : Option (List ℕ)) : Type 0 where
  pub text : List ℕ
  pub is_text : (text ≡ codes "store 75 Memory\n") ⊎ (text ≡ codes "store 77 Output\n")
  pub count : ℕ
  pub written : Appends before now (take count text)

-- The output of a batch with exit status 3: the lines of all executed requests and then the fault, or a prefix of these
-- lines and why the rest is missing.
abbrev pub IsBatchTold : BatchResults → (out out_now err err_now : Option (List ℕ)) → Type 0
IsBatchTold batched out out_now err err_now =
    (Appends out out_now (lines_of batched) × IfSome batched.fault (λ fault. IsFaultToldOf fault err err_now)
    × IsSome batched.fault)
    ⊎ (IsBegunWith out out_now (lines_of batched) × IsUnprinted err err_now)

-- ---- effect

-- the query has an answer, or this refusal
abbrev pub IsAsked : ClubState → (moment : ℕ) → Question → Option Refusal → Type 0
IsAsked s moment question None = (text : List ℕ) × IsText s moment question text
IsAsked s moment question (Some why) = IsRefused s question why

-- no query is refused, or this is the refusal of the first that is
abbrev pub AreAsked : ClubState → (moment : ℕ) → List Question → Option Refusal → Type 0
AreAsked s moment [] refusal = refusal ≡ None
AreAsked s moment (question ∷ questions) refusal =
    (IsAsked s moment question None × AreAsked s moment questions refusal)
    ⊎ ((why : Refusal) × IsAsked s moment question (Some why) × (refusal ≡ Some why))

-- The requests were executed in turn, all of them or up to a fault, with the outcomes of the specification.
pub record AreGiven (s : ClubState) (batch : Batch) (batched : BatchResults) : Type 0 where
  pub numbers : batched.numbers.items ≡ batch.numbers.items
  pub within : length batched.outcomes.items ≤ length batch.requests.items
  pub outcomes : map outcome_of batched.outcomes.items ≡ map answered
      (club_outcomes s (map request_of (take (length batched.outcomes.items) batch.requests.items)))
  pub whole : batched.fault ≡ None → length batched.outcomes.items ≡ length batch.requests.items
  pub fault : IfSome batched.fault (λ fault. (fault ≡ store_fault.Store) ⊎ (fault ≡ store_fault.Memory))

-- No query is refused and the requests were executed; or one is refused and none was; or a call failed, memory ran out
-- or the club has no tables for a query before the first request.
abbrev pub AnswersRequests : ClubState → (moment : ℕ) → Batch → Report → Type 0
AnswersRequests s moment batch (report.Batched batched) =
    AreAsked s moment batch.questions.items None × AreGiven s batch batched
AnswersRequests s moment batch (report.Answered (outcome.Refused refusal)) =
    AreAsked s moment batch.questions.items (Some refusal)
AnswersRequests s moment batch (report.Unopened fault) = (fault ≡ open_fault.Store) ⊎ (fault ≡ open_fault.Memory)
AnswersRequests s moment batch (report.StoreFailed fault) =
    (fault ≡ store_fault.Store) ⊎ ((fault ≡ store_fault.Memory) ⊎ IsUnasked s batch.questions.items fault)
AnswersRequests s moment batch _ = ⊥

-- The batch is answered so. If the club cannot record one of its requests, the fault says so, and nothing is executed.
abbrev pub AnswersBatch : ClubState → (moment : ℕ) → Batch → Report → Type 0
AnswersBatch s moment batch report =
    IfRecorded (takes_all s batch.requests.items) report (AnswersRequests s moment batch report)

-- the requests are one session, which ends at the fault if there is one; without requests there is no session
abbrev pub batch_sessions : List Request → Report → List HistoryStep
batch_sessions requests (report.Batched batched) =
    session_of requests (record { outcomes = batched.outcomes; fault = batched.fault }) ∷ []
batch_sessions requests _ = []
