-- The reply that the club's state and a request determine. No promise of the program rests on these definitions.
use Rattle.std.specs.Prelude.{◌≡◌, ◌⊎◌, ℕ, List, Option, Some, None, Result, Ok, Err, Bool, false}
use Rattle.std.specs.Prelude.{⊤}
use Rattle.club_core.specs.State.{Command, needs_arbiter}
use Rattle.http_desk.specs.Served.{Club, IsOfCall, Serves}
use Rattle.http_desk.specs.declared.desk.AnswerFault.{AnswerFault}
use Rattle.http_desk.specs.declared.desk.AnswerFault.TheVariants as stop
use Rattle.http_desk.specs.Desk.{Answer, ExpectedReply, IsExpectedReply}

-- the faults of an open club
abbrev pub IsStop : AnswerFault → Type 0
IsStop (stop.Club fault) = IsOfCall fault
IsStop stop.Memory = ⊤

-- there is a command, and it is an arbiter's
abbrev pub is_for_arbiter : Option Command → Bool
is_for_arbiter None = false
is_for_arbiter (Some command) = needs_arbiter command

-- the effect of a call with this next state and expected answer
abbrev pub ServesDue : {S A : Type 0} → Club S → (S → Type 0) → (S → S → Type 0) → (A → Answer) → S → S × ExpectedReply
    → Result A AnswerFault → Type 0
ServesDue club stands leaves view s due result =
    Serves stands leaves s due.0 (λ a. IsExpectedReply club s due.1 (view a)) IsStop result

-- the member that a call names: the expected one, or at a fault that one or nobody
abbrev pub NamesExpectedCaller : {A : Type 0} → Option (List ℕ) → Option (List ℕ) → Result A AnswerFault → Type 0
NamesExpectedCaller due told (Ok a) = told ≡ due
NamesExpectedCaller due told (Err fault) = (told ≡ None) ⊎ (told ≡ due)
