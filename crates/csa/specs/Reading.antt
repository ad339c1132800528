-- The records of a text, and the refusals of texts.
use Rattle.std.specs.Prelude.{◌≡◌, ◌≢◌, ◌⊎◌, ℕ, not, Bool, true, false, Option, Some, None, List, [], ◌∷◌, ◌++◌}
use Rattle.std.specs.Prelude.{if◌then◌else◌}
use Rattle.std.specs.List.{list_any, slice_split}
use Rattle.squares.specs.declared.sides.Score.{Score}
use Rattle.squares.specs.declared.shogi.moves.SMove.{SMove}
use Rattle.csa.specs.declared.faults.CsaFault.{CsaFault}
use Rattle.csa.specs.declared.faults.CsaFault.TheVariants as fault
use Rattle.csa.specs.declared.lines.NumberedStatement.{NumberedStatement}
use Rattle.csa.specs.declared.order.RecordStage.TheVariants as place
use Rattle.csa.specs.declared.statements.Statement.{Statement}
use Rattle.csa.specs.declared.statements.Statement.TheVariants as statement
use Rattle.csa.specs.Lines.{text_statements}
use Rattle.csa.specs.Order.{first_stray}
use Rattle.csa.specs.Records.{IsRecordWith, RecordFails}

-- whether a statement is the `/` that separates records
abbrev pub is_parting : Statement → Bool
is_parting statement.Parting = true
is_parting _ = false

-- whether a statement is a header
abbrev pub is_header_statement : Statement → Bool
is_header_statement statement.Header = true
is_header_statement _ = false

-- the first statement that is not a header
abbrev pub first_statement : List NumberedStatement → Option Statement
first_statement [] = None
first_statement (placed ∷ more) = if is_header_statement placed.statement then first_statement more else Some
    placed.statement

-- whether a record has a statement other than headers
abbrev pub has_statement : List NumberedStatement → Bool
has_statement placed = list_any (λ each. not (is_header_statement each.statement)) placed

-- the records without a last part that has no statements
abbrev pub without_bare_last : List (List NumberedStatement) → List (List NumberedStatement)
without_bare_last [] = []
without_bare_last (part ∷ []) = if has_statement part then part ∷ [] else []
without_bare_last (part ∷ next ∷ more) = part ∷ without_bare_last (next ∷ more)

-- the records that `/` separates
abbrev pub records_of : List NumberedStatement → List (List NumberedStatement)
records_of placed = without_bare_last (slice_split (λ each. is_parting each.statement) placed)

-- the record is that of some game
abbrev pub IsOfGame : List NumberedStatement → Type 0
IsOfGame placed = (ms : List SMove) × (score : Score) × (wins : Bool) × IsRecordWith placed ms score wins

-- each record is that of some game
abbrev pub AreOfGames : List (List NumberedStatement) → Type 0
AreOfGames [] = Unit {0}
AreOfGames (placed ∷ records) = IsOfGame placed × AreOfGames records

-- the statements begin with a version, are well-formed and are in order
pub record AreOrdered (placed : List NumberedStatement) : Type 0 where
  pub version : first_statement placed ≡ Some statement.Version
  pub order : first_stray place.Start placed ≡ None

-- each record before this one is that of a game, and this one has the fault
pub record FailsAfter (records : List (List NumberedStatement)) (f : CsaFault) : Type 0 where
  pub before : List (List NumberedStatement)
  pub failing : List NumberedStatement
  pub after : List (List NumberedStatement)
  pub parts : records ≡ before ++ failing ∷ after
  pub read : AreOfGames before
  pub fails : RecordFails failing f

-- the statements are in order, and the first faulty record has the fault
abbrev pub SomeRecordFails : List NumberedStatement → CsaFault → Type 0
SomeRecordFails placed f = AreOrdered placed × FailsAfter (records_of placed) f

-- no statement, or the first malformed or misplaced one is on this line
abbrev pub IsBadOn : List NumberedStatement → ℕ → Type 0
IsBadOn placed line =
    ((first_statement placed ≡ None) × (line ≡ 1))
    ⊎ ((first_statement placed ≡ Some statement.Version) × (first_stray place.Start placed ≡ Some line))

-- The faults of statements: no statement, a first one that is not a version, one that is malformed or misplaced, and
-- then those of the records in order.
abbrev pub Refuses : List NumberedStatement → CsaFault → Type 0
Refuses placed fault.Memory = Unit {0}
Refuses placed (fault.BadText line) = IsBadOn placed line
Refuses placed fault.Version = (first : Statement) × (first_statement placed ≡ Some first) × (first ≢ statement.Version)
Refuses placed fault.OtherOpening = SomeRecordFails placed fault.OtherOpening
Refuses placed (fault.Illegal ply cause) = SomeRecordFails placed (fault.Illegal ply cause)
Refuses placed fault.Unfinished = SomeRecordFails placed fault.Unfinished
Refuses placed (fault.AfterEnd ply) = SomeRecordFails placed (fault.AfterEnd ply)
Refuses placed fault.ResultDiffers = SomeRecordFails placed fault.ResultDiffers

-- the faults of a text
abbrev pub IsRefused : List ℕ → CsaFault → Type 0
IsRefused text f = Refuses (text_statements text) f
