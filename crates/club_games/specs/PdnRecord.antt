-- The game of a PDN text, and the refusals of texts, by the grammar and the rules.
use Rattle.std.specs.Prelude.{◌≡◌, ◌≢◌, ℕ, List, false}
use Rattle.squares.specs.declared.draughts.moves.DMove.{DMove}
use Rattle.pdn_games.specs.declared.faults.PdnFault.{PdnFault}
use Rattle.pdn_games.specs.declared.faults.PdnFault.TheVariants as fault
use Rattle.pdn_games.specs.Reading.{IsTextWith, IsRefused}
use Rattle.club_rules.specs.declared.records.RecordFormat.TheVariants.{Pdn}
use Rattle.club_rules.specs.declared.record_refusals.RecordRefusal.{RecordRefusal}
use Rattle.club_rules.specs.declared.record_refusals.RecordRefusal.TheVariants as record_refusal
use Rattle.club_rules.specs.Records.{Recorded, Reading, game, no_part, refused}
use Rattle.club_games.specs.Draughts.{refusal_of}

-- the club's refusal for a fault; out of memory refuses no text, so that case is arbitrary
abbrev pub pdn_refusal : PdnFault → RecordRefusal
pdn_refusal fault.Memory = record_refusal.Unfinished Pdn
pdn_refusal (fault.BadText offset) = record_refusal.BadText Pdn offset
pdn_refusal (fault.Ambiguous ply) = record_refusal.Ambiguous ply
pdn_refusal (fault.Illegal ply cause) = record_refusal.Illegal Pdn ply (refusal_of cause)
pdn_refusal fault.OtherType = record_refusal.OtherType
pdn_refusal fault.OtherOpening = record_refusal.OtherOpening Pdn
pdn_refusal fault.Unfinished = record_refusal.Unfinished Pdn
pdn_refusal (fault.AfterEnd ply) = record_refusal.AfterEnd Pdn ply
pdn_refusal fault.ResultDiffers = record_refusal.ResultDiffers Pdn

-- the text is the text of the game, in which nobody declares a win
pub record IsPdnGame (text : List ℕ) (r : Recorded DMove) : Type 0 where
  pub read : IsTextWith text r.moves r.score
  pub declared : r.declared ≡ false

-- the text has a fault other than out of memory, and this is its refusal
pub record IsPdnRefusal (text : List ℕ) (refusal : RecordRefusal) : Type 0 where
  pub found : PdnFault
  pub no_memory : found ≢ fault.Memory
  pub refuses : IsRefused text found
  pub named : refusal ≡ pdn_refusal found

-- Part 1 of a PDN text is the game of which it is the text, or the refusal of the text. There is no other part.
abbrev pub IsPdnPart : List ℕ → ℕ → Reading DMove → Type 0
IsPdnPart text part (game r) = (part ≡ 1) × IsPdnGame text r
IsPdnPart text part (refused refusal) = (part ≡ 1) × IsPdnRefusal text refusal
IsPdnPart text part no_part = part ≢ 1
