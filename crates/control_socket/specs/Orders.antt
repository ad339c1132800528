-- The effect of orders on a club, and their answers.
use Rattle.std.specs.Prelude.{◌≡◌, ◌⊎◌, ℕ, Bool, List, Option, Result, Ok, Err, take}
use Rattle.std.specs.Io.KnownBytes.{Appends}
use Rattle.club_requests.specs.declared.answers.Outcome.{Outcome}
use Rattle.club_requests.specs.declared.refusals.Refusal.{Refusal}
use Rattle.club_core.specs.Answer.{command_of, outcome_of}
use Rattle.club_core.specs.State.{Command as Given, Request, officer}
use Rattle.http_desk.specs.Served.{Club, IsOfCall, IsOfCommand}
use Rattle.http_desk.specs.declared.faults.ClubFault.{ClubFault}
use Rattle.control_socket.specs.Answers.{encode_answer}
use Rattle.control_socket.specs.Printed.{Print, print_of, printed, shown_printed}
use Rattle.control_socket.specs.declared.orders.Operation.{Operation}
use Rattle.control_socket.specs.declared.orders.Operation.TheVariants.{Command, Question}
use Rattle.control_socket.specs.declared.orders.OrderFault.{OrderFault}
use Rattle.control_socket.specs.declared.orders.OrderFault.TheVariants.{NotDone, ReplyLost}

-- a command of the officer at a timestamp
abbrev pub order : Given → ℕ → Request
order command moment = record { who = officer; command = command; moment = moment }

-- the next state; a query changes nothing
abbrev pub state_after : {S : Type 0} → Club S → S → ℕ → Operation → S
state_after club s moment (Command command) = (club.step s (order (command_of command) moment)).0
state_after club s moment (Question question) = s

-- The operation took effect once or not at all: the club is in the next state, or a crash leaves that one or the one
-- before.
abbrev pub HasRunOperation : {S : Type 0} → Club S → (S → Type 0) → (S → S → Type 0) → S → ℕ → Operation → Type 0
HasRunOperation club stands leaves s moment errand =
    stands s ⊎ (stands (state_after club s moment errand) ⊎ leaves s (state_after club s moment errand))

-- ---- output

-- the output of an operation: the outcome of a command, the answer to a query, or the refusal
abbrev pub IsPrinted : {S : Type 0} → Club S → S → ℕ → Operation → Print → Type 0
IsPrinted club s moment (Command command) print =
    (outcome : Outcome) × (outcome_of outcome ≡ (club.step s (order (command_of command) moment)).1)
    × (print ≡ printed outcome)
IsPrinted club s moment (Question question) print =
    (shown : Result (List ℕ) Refusal) × club.IsShown s moment question shown × (print ≡ shown_printed shown)

-- ---- answers

-- The answer is sent after the operation took effect; if the writer fails, a prefix of it. Nothing is sent of an
-- operation that did not.
abbrev pub HasSentAnswer : {S : Type 0} → Club S → (S → Type 0) → S → ℕ → Operation → Option (List ℕ) → Option (List ℕ)
    → Result Bool OrderFault → Type 0
HasSentAnswer club stands s moment errand before now (Ok done) =
    stands (state_after club s moment errand)
    × ((text : List ℕ) × IsPrinted club s moment errand (print_of done text)
    × Appends before now (encode_answer done text))
HasSentAnswer club stands s moment errand before now (Err ReplyLost) =
    stands (state_after club s moment errand)
    × ((done : Bool) × (text : List ℕ) × (n : ℕ) × IsPrinted club s moment errand (print_of done text)
    × Appends before now (take n (encode_answer done text)))
HasSentAnswer club stands s moment errand before now (Err NotDone) = now ≡ before
