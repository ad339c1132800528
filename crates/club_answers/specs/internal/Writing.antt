-- The result of writing a text. No promise of the program rests on these definitions.
use Rattle.std.specs.Prelude.{◌≡◌, ◌⊎◌, ◌++◌, ℕ, List, Option, Some, None, true, Result, Ok, Err}
use Rattle.std.specs.Io.KnownBytes.{Appends}
use Rattle.record_writer.specs.Pieces.{AppendsSome}
use Rattle.club_rules.specs.declared.names.GameKind.{GameKind}
use Rattle.club_requests.specs.declared.refusals.Refusal.{Refusal}
use Rattle.club_rows.specs.Club.{ClubState}
use Rattle.club_answers.specs.declared.exported.ViewFault.{ViewFault}
use Rattle.club_answers.specs.declared.exported.ViewFault.TheVariants as stopped
use Rattle.club_answers.specs.EventRecords.{AreRecords}
use Rattle.club_answers.specs.Records.{IsRecordAt}

-- the whole text was written and nothing is refused, or the writer failed
abbrev pub IsWritten : Result (Option Refusal) ViewFault → List ℕ → Option (List ℕ) → Option (List ℕ) → Type 0
IsWritten (Ok refusal) text before now = (refusal ≡ None) × Appends before now text
IsWritten (Err fault) text before now = fault ≡ stopped.Output

-- a separator and the record of the game with this id were appended
abbrev pub AddsRecord : ClubState → ℕ → (front : List ℕ) → Option (List ℕ) → Option (List ℕ) → Type 0
AddsRecord s id front before now =
    (record' : List ℕ) × IsRecordAt s id record' × Appends before now (front ++ record')

-- a prefix of the separator, or of the separator and the record, was appended
abbrev pub BeginsRecord : ClubState → ℕ → (front : List ℕ) → Option (List ℕ) → Option (List ℕ) → Type 0
BeginsRecord s id front before now =
    AppendsSome before now front
    ⊎ ((record' : List ℕ) × IsRecordAt s id record' × AppendsSome before now (front ++ record'))

-- the records of the games with these ids were written, and nothing is refused
abbrev pub HasRecords : ClubState → GameKind → List ℕ → Option Refusal → Option (List ℕ) → Option (List ℕ) → Type 0
HasRecords s kind ids None before now = (text : List ℕ) × AreRecords s kind true ids text × Appends before now text
HasRecords s kind ids (Some refusal) before now = ⊥
