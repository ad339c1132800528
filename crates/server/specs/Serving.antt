-- One connection, over a reader and a writer whose bytes are known.
use Rattle.std.specs.Prelude.{◌≡◌, ◌⊎◌, ℕ, List, [], ◌++◌, Option, Some, Result, Ok, Err, take}
use Rattle.http_desk.specs.declared.faults.DeskFault.{DeskFault}
use Rattle.http_desk.specs.declared.faults.DeskFault.TheVariants.{Memory, Read, Write}
use Rattle.http_head.specs.Request.{ParseState, Sees, IsDecided, asks_head}
use Rattle.http_desk.specs.Served.{Club}
use Rattle.http_desk.specs.declared.faults.ClubFault.{ClubFault}
use Rattle.http_desk.specs.Desk.{IsReply, next_state, IsShutReply}

-- the reader was read to its end, or to a prefix that no further bytes change
abbrev pub HasRead : List ℕ → Option (List ℕ) → Type 0
HasRead input left = (taken : List ℕ) × (rest : List ℕ) × (input ≡ taken ++ rest) × (left ≡ Some rest)
    × ((rest ≡ []) ⊎ IsDecided taken)

-- the reply is the one to all the input
abbrev pub IsReplyTo : {S : Type 0} → Club S → (S → Type 0) → (S → S → Type 0) → S → ℕ → List ℕ → List ℕ → Type 0
IsReplyTo club stands leaves s moment input reply = (seen : ParseState) × Sees input seen
    × IsReply club stands leaves s moment (asks_head input) seen reply

-- out of memory: the request was not executed, or it was
abbrev pub MayHaveActed : {S : Type 0} → Club S → (S → Type 0) → (S → S → Type 0) → S → ℕ → List ℕ → Type 0
MayHaveActed club stands leaves s moment input = stands s
    ⊎ ((seen : ParseState) × Sees input seen × leaves s (next_state club s moment seen))

-- the effect of a connection on the club and on the writer, which held `before`
abbrev pub Serving : {S U : Type 0} → Club S → (S → Type 0) → (S → S → Type 0) → S → ℕ → List ℕ → List ℕ
    → Option (List ℕ) → Option (List ℕ) → Result U DeskFault → Type 0
Serving club stands leaves s moment input before left written (Ok u) = HasRead input left
    × ((reply : List ℕ) × IsReplyTo club stands leaves s moment input reply × (written ≡ Some (before ++ reply)))
Serving club stands leaves s moment input before left written (Err Read) = stands s × (written ≡ Some before)
Serving club stands leaves s moment input before left written (Err Memory) =
    MayHaveActed club stands leaves s moment input × (written ≡ Some before)
Serving club stands leaves s moment input before left written (Err Write) = (reply : List ℕ) × (n : ℕ)
    × IsReplyTo club stands leaves s moment input reply × (written ≡ Some (before ++ take n reply))

-- the effect of a connection on the writer if the club is unavailable
abbrev pub ShutServing : {U : Type 0} → ClubFault → List ℕ → List ℕ → Option (List ℕ) → Result U DeskFault → Type 0
ShutServing fault input before written (Ok u) = (reply : List ℕ) × IsShutReply fault input reply
    × (written ≡ Some (before ++ reply))
ShutServing fault input before written (Err Read) = written ≡ Some before
ShutServing fault input before written (Err Memory) = written ≡ Some before
ShutServing fault input before written (Err Write) = (reply : List ℕ) × (n : ℕ) × IsShutReply fault input reply
    × (written ≡ Some (before ++ take n reply))
