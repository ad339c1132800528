-- The games of a CSA text, and the refusals of texts, by the standard and the rules.
use Rattle.std.specs.Prelude.{◌≡◌, ◌≢◌, ℕ, zero, suc, List, [], ◌∷◌, Option, Some, None, slice_get}
use Rattle.squares.specs.declared.shogi.moves.SMove.{SMove}
use Rattle.csa.specs.declared.faults.CsaFault.{CsaFault}
use Rattle.csa.specs.declared.faults.CsaFault.TheVariants as fault
use Rattle.csa.specs.declared.lines.NumberedStatement.{NumberedStatement}
use Rattle.csa.specs.Lines.{text_statements}
use Rattle.csa.specs.Reading.{records_of, AreOrdered, IsRefused}
use Rattle.csa.specs.Records.{IsRecordWith}
use Rattle.club_rules.specs.declared.records.RecordFormat.TheVariants.{Csa}
use Rattle.club_rules.specs.declared.record_refusals.RecordRefusal.{RecordRefusal}
use Rattle.club_rules.specs.declared.record_refusals.RecordRefusal.TheVariants as record_refusal
use Rattle.club_rules.specs.Records.{Recorded, Reading, game, no_part, refused}
use Rattle.club_games.specs.Shogi.{refusal_of}

-- the club's refusal for a fault; out of memory refuses no text, so that case is arbitrary
abbrev pub csa_refusal : CsaFault → RecordRefusal
csa_refusal fault.Memory = record_refusal.Unfinished Csa
csa_refusal (fault.BadText line) = record_refusal.BadText Csa line
csa_refusal fault.Version = record_refusal.Version
csa_refusal fault.OtherOpening = record_refusal.OtherOpening Csa
csa_refusal (fault.Illegal ply cause) = record_refusal.Illegal Csa ply (refusal_of cause)
csa_refusal fault.Unfinished = record_refusal.Unfinished Csa
csa_refusal (fault.AfterEnd ply) = record_refusal.AfterEnd Csa ply
csa_refusal fault.ResultDiffers = record_refusal.ResultDiffers Csa

-- the record is that of the game
abbrev pub IsCsaGame : List NumberedStatement → Recorded SMove → Type 0
IsCsaGame placed r = IsRecordWith placed r.moves r.score r.declared

-- the records are those of the games
abbrev pub AreCsaGames : List (List NumberedStatement) → List (Recorded SMove) → Type 0
AreCsaGames [] [] = Unit {0}
AreCsaGames [] (r ∷ games) = ⊥
AreCsaGames (placed ∷ records) [] = ⊥
AreCsaGames (placed ∷ records) (r ∷ games) = IsCsaGame placed r × AreCsaGames records games

-- the text consists of the records of these games
pub record IsTextOfGames (text : List ℕ) (games : List (Recorded SMove)) : Type 0 where
  pub ordered : AreOrdered (text_statements text)
  pub records : AreCsaGames (records_of (text_statements text)) games

-- the text consists of the records of games, and `found` is the game after so many of them, if it exists
pub record HasCsaGame (text : List ℕ) (before : ℕ) (found : Option (Recorded SMove)) : Type 0 where
  pub games : List (Recorded SMove)
  pub read : IsTextOfGames text games
  pub at : slice_get games before ≡ found

-- the text has a fault other than out of memory, and this is its refusal
pub record IsCsaRefusal (text : List ℕ) (refusal : RecordRefusal) : Type 0 where
  pub found : CsaFault
  pub no_memory : found ≢ fault.Memory
  pub refuses : IsRefused text found
  pub named : refusal ≡ csa_refusal found

-- A part of a CSA text is the game with this number, or the refusal of the text. Parts count from 1, and there are as
-- many as games.
abbrev pub IsCsaPart : List ℕ → ℕ → Reading SMove → Type 0
IsCsaPart text zero read = read ≡ no_part
IsCsaPart text (suc before) (game r) = HasCsaGame text before (Some r)
IsCsaPart text (suc before) (refused refusal) = IsCsaRefusal text refusal
IsCsaPart text (suc before) no_part = HasCsaGame text before None
