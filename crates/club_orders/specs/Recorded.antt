-- Orders that only a club with an arbiter can record, and queries that only such a club can answer. To a club of
-- schema 2 they are fault 71.
use Rattle.std.specs.Prelude.{◌≡◌, ◌⊎◌, Bool, true, false, not, ◌||◌, List, pos}
use Rattle.std.specs.List.{list_any}
use Rattle.club_requests.specs.Questions.{is_arbiters}
use Rattle.club_requests.specs.declared.questions.Question.{Question}
use Rattle.club_requests.specs.declared.requests.Request.{Request}
use Rattle.club_core.specs.Answer.{command_of}
use Rattle.club_core.specs.State.{needs_arbiter}
use Rattle.club_rows.specs.Club.{ClubState}
use Rattle.club_check.specs.declared.fault.OpenFault.TheVariants as open_fault
use Rattle.store.specs.declared.fault.StoreFault.{StoreFault}
use Rattle.store.specs.declared.fault.StoreFault.TheVariants as store_fault
use Rattle.club_orders.specs.declared.report.Report.{Report}
use Rattle.club_orders.specs.declared.report.Report.TheVariants.{Unopened, StoreFailed}

-- schema 2 cannot record the order; or a call of the database failed, or memory ran out, while the club was opened
abbrev pub IsUnrecorded : Report → Type 0
IsUnrecorded (StoreFailed fault) = fault ≡ store_fault.Schema (pos 2)
IsUnrecorded (Unopened fault) = (fault ≡ open_fault.Store) ⊎ (fault ≡ open_fault.Memory)
IsUnrecorded _ = ⊥

-- this holds if the club can record the order; otherwise the report says that it cannot
abbrev pub IfRecorded : (can_record : Bool) → Report → Type 0 → Type 0
IfRecorded true report Holds = Holds
IfRecorded false report Holds = IsUnrecorded report

-- one of the requests needs an arbiter
abbrev pub needs_any : List Request → Bool
needs_any requests = list_any (λ r. needs_arbiter (command_of r.command)) requests

-- the club can record each of the requests
abbrev pub takes_all : ClubState → List Request → Bool
takes_all s requests = not (needs_any requests) || s.has_arbiter

-- the club has the tables that the query is about
abbrev pub can_ask : ClubState → Question → Bool
can_ask s question = not (is_arbiters question) || s.has_arbiter

-- the club has no arbiter, and one of the queries needs one, as the fault says
abbrev pub IsUnasked : ClubState → List Question → StoreFault → Type 0
IsUnasked s questions fault =
    (fault ≡ store_fault.Schema (pos 2)) × (list_any is_arbiters questions ≡ true) × (s.has_arbiter ≡ false)
