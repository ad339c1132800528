-- A club as the HTTP application sees it, and the effect of a call.
use Rattle.std.specs.Prelude.{◌≡◌, ◌⊎◌, ℕ, List, Option, Result, Ok, Err, true}
use Rattle.club_requests.specs.Outcome.{Outcome}
use Rattle.club_requests.specs.declared.refusals.Refusal.{Refusal}
use Rattle.club_requests.specs.Questions.{is_arbiters}
use Rattle.club_requests.specs.declared.questions.Question.{Question}
use Rattle.club_core.specs.State.{Command, Request, needs_arbiter}
use Rattle.http_desk.specs.declared.faults.ClubFault.{ClubFault}
use Rattle.http_desk.specs.declared.faults.ClubFault.TheVariants.{Schema, Store, Memory}

-- a club as an abstract machine: answers are relations, steps are functions
pub record Club (S : Type 0) : Type 1 where
  -- the name of the member who has the key, if there is one
  pub member_by_key : S → List ℕ → Option (List ℕ)
  -- the answer to a query at a timestamp, or the refusal
  pub IsShown : S → ℕ → Question → Result (List ℕ) Refusal → Type 0
  -- the next state and the outcome of a command
  pub step : S → Request → S × Outcome (Unit {0})

-- the faults of a call on an open club: a database call failed, or out of memory
abbrev pub IsOfCall : ClubFault → Type 0
IsOfCall fault = (fault ≡ Store) ⊎ (fault ≡ Memory)

-- the faults of a command on an open club: those of a call, and 71 if it is an arbiter's and the file has no tables
-- for it
abbrev pub IsOfCommand : Command → ClubFault → Type 0
IsOfCommand command fault = IsOfCall fault ⊎ ((needs_arbiter command ≡ true) × (fault ≡ Schema))

-- the faults of a query on an open club: those of a call, and 71 if it is an arbiter's and the file has no tables for
-- it
abbrev pub IsOfQuestion : Question → ClubFault → Type 0
IsOfQuestion question fault = IsOfCall fault ⊎ ((is_arbiters question ≡ true) × (fault ≡ Schema))

-- The effect of a call in the state `s`: on Ok a right answer and the state `next`; on Err a possible fault and one
-- of the two states.
abbrev pub Serves : {S A F : Type 0} → (S → Type 0) → (S → S → Type 0) → S → S → (A → Type 0) → (F → Type 0)
    → Result A F → Type 0
Serves stands leaves s next is_right is_told (Ok a) = is_right a × stands next
Serves stands leaves s next is_right is_told (Err fault) = is_told fault × leaves s next
