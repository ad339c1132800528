-- The records of a text, and the refusals of texts. No promise of the program rests on these definitions.
use Rattle.std.specs.Prelude.{◌≡◌, ◌⊎◌, ℕ, List, [], ◌∷◌}
use Rattle.csa.specs.declared.faults.CsaFault.{CsaFault}
use Rattle.csa.specs.declared.faults.CsaFault.TheVariants as fault
use Rattle.csa.specs.declared.game.CsaGame.{CsaGame}
use Rattle.csa.specs.declared.lines.NumberedStatement.{NumberedStatement}
use Rattle.csa.specs.Lines.{text_statements}
use Rattle.csa.specs.internal.Records.{IsRecordOf}
use Rattle.csa.specs.Reading.{records_of, AreOrdered, FailsAfter}

-- the records are those of the games
abbrev pub AreRecordsOf : List (List NumberedStatement) → List CsaGame → Type 0
AreRecordsOf [] [] = Unit {0}
AreRecordsOf [] (game ∷ games) = ⊥
AreRecordsOf (placed ∷ records) [] = ⊥
AreRecordsOf (placed ∷ records) (game ∷ games) = IsRecordOf placed game × AreRecordsOf records games

-- the text consists of the records of these games
pub record IsTextOf (text : List ℕ) (games : List CsaGame) : Type 0 where
  pub ordered : AreOrdered (text_statements text)
  pub records : AreRecordsOf (records_of (text_statements text)) games

-- out of memory, or a record has the fault
abbrev pub FailsOrMemory : List (List NumberedStatement) → CsaFault → Type 0
FailsOrMemory records f = (f ≡ fault.Memory) ⊎ FailsAfter records f
