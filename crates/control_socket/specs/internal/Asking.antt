-- The operation of a command line and its record. No promise of the program rests on these definitions.
use Rattle.std.specs.Prelude.{◌≡◌, ◌≢◌, ◌==◌, ℕ, List, [], ◌∷◌, Option, Some, None, All}
use Rattle.std.specs.List.{join_with_byte, slice_split}
use Rattle.std.specs.declared.alloc.Global.{Global}
use Rattle.std.specs.declared.vec.Vec.{Vec}
use Rattle.cli.specs.declared.words.Task.{Task}
use Rattle.cli.specs.declared.words.Task.TheVariants as task
use Rattle.cli.specs.declared.words.Invocation.{Invocation}
use Rattle.cli.specs.declared.words.Invocation.TheVariants as words
use Rattle.cli.specs.internal.Inputs.{IsTaskWith}
use Rattle.control_socket.specs.declared.orders.Operation.{Operation}
use Rattle.control_socket.specs.declared.orders.Operation.TheVariants.{Command, Question}
use Rattle.http_desk.specs.Served.{IsOfCommand, IsOfQuestion}
use Rattle.http_desk.specs.declared.faults.ClubFault.{ClubFault}
use Rattle.club_core.specs.Answer.{command_of}

-- the words, joined by NUL, which no command line has
abbrev pub joined : List (List ℕ) → List ℕ
joined parts = join_with_byte 0 parts

-- the words, split at NUL
abbrev pub parted : List ℕ → List (List ℕ)
parted bytes = slice_split (λ b. b == 0) bytes

-- there is a word, and none has a NUL
abbrev pub AreWords : List (List ℕ) → Type 0
AreWords [] = ⊥
AreWords (word ∷ []) = All (λ byte. byte ≢ 0) word
AreWords (word ∷ next ∷ words) = All (λ byte. byte ≢ 0) word × AreWords (next ∷ words)

-- the operation of a task; tasks that need the file to themselves have none
abbrev pub operation_of : Task → Option Operation
operation_of (task.Request command) = Some (Command command)
operation_of (task.Ask question) = Some (Question question)
operation_of _ = None

-- the operation of a command line with its record or its new key; batches, round robins, rulings on many games and
-- `serve` have none
abbrev pub IsOperationOf : Invocation → List ℕ → Option Operation → Type 0
IsOperationOf (words.Order order) text errand =
    (given : Vec ℕ Global) × (task : Task) × (given.items ≡ text) × IsTaskWith given order.task task
    × (errand ≡ operation_of task)
IsOperationOf _ text errand = errand ≡ None

-- the faults of an operation on an open club
abbrev pub IsOfOperation : Operation → ClubFault → Type 0
IsOfOperation (Command command) fault = IsOfCommand (command_of command) fault
IsOfOperation (Question question) fault = IsOfQuestion question fault
