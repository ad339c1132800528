-- What is reported of orders that a club records, or that its schema cannot record.
use Rattle.std.proofs.Common.{◌≡◌, ◌⊎◌, ◌∙◌, Bool, true, false, List, [], ◌∷◌, ◌++◌, inl, inr, refl, sym, true≢false}
use Rattle.std.proofs.Common.{pos, ℤ}
use Rattle.std.specs.Prelude.{not, ◌||◌}
use Rattle.sqlite.specs.Tree.{Trees}
use Rattle.store_tables.specs.Over.{LeavesBeside, Neighbours}
use Rattle.store_tables.specs.declared.names.Version.{Version}
use Rattle.club_core.specs.State.{Request}
use Rattle.club_rows.specs.Club.{ClubState, tables}
use Rattle.club_changes.specs.Steps.{club_next}
use Rattle.store.specs.Histories.{HistoryStep, IsReachable, cut_session}
use Rattle.store.specs.declared.fault.StoreFault.{StoreFault}
use Rattle.store.specs.declared.fault.StoreFault.TheVariants.{Store, Memory, Reopen, Schema}
use Rattle.club_orders.specs.NextStates.{LeavesRequest}
use Rattle.club_orders.specs.Recorded.{IfRecorded, IsUnrecorded}
use Rattle.club_orders.specs.Report.{request_sessions}
use Rattle.club_orders.specs.declared.report.Report.{Report}
use Rattle.club_orders.specs.declared.report.Report.TheVariants.{StoreFailed}
use Rattle.club_orders.proofs.SessionLemmas.{led_still}

-- what holds if the club can record the order, and what is reported if it cannot
pub recorded_by : (can_record : Bool) (report : Report) {Holds : Type 0} → (can_record ≡ true → Holds)
    → (can_record ≡ false → IsUnrecorded report) → IfRecorded can_record report Holds
recorded_by true report holds unrecorded = holds refl
recorded_by false report holds unrecorded = unrecorded refl

-- an order that is not taken needs an arbiter, and there is none
pub not_taken : (needs has : Bool) → (not needs || has) ≡ false → (needs ≡ true) × (has ≡ false)
not_taken true has is = (refl, is)
not_taken false has is = absurd (true≢false is)

pub untaken : (needs has : Bool) → needs ≡ true → has ≡ false → (not needs || has) ≡ false
untaken needs has is none = rw (is, none) refl

-- an order that is taken needs no arbiter, or there is one
pub taken_alike : (needs has : Bool) → (not needs || has) ≡ true → needs ≡ true → has ≡ false → ⊥
taken_alike true has took needs none = absurd (true≢false (sym took ∙ none))
taken_alike false has took needs none = absurd (true≢false (sym needs))

-- otherwise it is taken
pub is_taken : (needs has : Bool) → (has ≡ false → needs ≡ true → ⊥) → (not needs || has) ≡ true
is_taken true true other = refl
is_taken true false other = absurd (other refl refl)
is_taken false has other = refl

-- the fault of a call to an open club: of the database, of memory, or of the schema
abbrev pub IsOfCall : StoreFault → Type 0
IsOfCall fault = (fault ≡ Store) ⊎ ((fault ≡ Memory) ⊎ (fault ≡ Schema (pos 2)))

-- the schema is no fault where the club takes the order
pub other_fault : (fault : StoreFault) → IsOfCall fault → (fault ≡ Schema (pos 2) → ⊥)
    → (fault ≡ Store) ⊎ (fault ≡ Memory)
other_fault fault (inl is) other = inl is
other_fault fault (inr (inl is)) other = inr is
other_fault fault (inr (inr is)) other = absurd (other is)

-- the number of the schema that cannot record the order
schema_two : (n : ℤ) → IsOfCall (Schema n) → Schema n ≡ Schema (pos 2)
schema_two n (inl is) = absurd (let x = is in cc)
schema_two n (inr (inl is)) = absurd (let x = is in cc)
schema_two n (inr (inr is)) = is

-- what a failed request leaves: where the schema cannot record it, the tables are as they were
pub leaves_failed : (them : Neighbours) (s : ClubState) (asked : Request) (fault : StoreFault) (trees : Trees)
    → IsOfCall fault → (fault ≡ Schema (pos 2) → LeavesBeside them (tables s) trees)
    → LeavesBeside them (tables s) trees ⊎ LeavesBeside them (tables (club_next s asked)) trees
    → LeavesRequest them s asked (StoreFailed fault) trees
leaves_failed them s asked Store trees of untouched left = left
leaves_failed them s asked Memory trees of untouched left = left
leaves_failed them s asked Reopen trees of untouched left = left
leaves_failed them s asked (Schema n) trees of untouched left = untouched (schema_two n of)

pub sessions_failed : (from version : Version) (them : Neighbours) (sessions : List HistoryStep) (asked : Request)
    (fault : StoreFault) (db : Trees) → IsOfCall fault
    → (fault ≡ Schema (pos 2) → IsReachable from version them sessions db)
    → IsReachable from version them (sessions ++ cut_session asked ∷ []) db
    → IsReachable from version them (sessions ++ request_sessions asked (StoreFailed fault)) db
sessions_failed from version them sessions asked Store db of untouched cut = cut
sessions_failed from version them sessions asked Memory db of untouched cut = cut
sessions_failed from version them sessions asked Reopen db of untouched cut = cut
sessions_failed from version them sessions asked (Schema n) db of untouched cut =
    led_still from version them sessions db (untouched (schema_two n of))
