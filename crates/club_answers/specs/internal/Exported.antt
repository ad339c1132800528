-- The record of a game, and the part of it that a writer has received. No promise of the program rests on these
-- definitions.
use Rattle.std.specs.Prelude.{◌≡◌, ℕ, List, ◌⊎◌, Option, Some, None, Bool, true, false, Result, Ok, Err, string_bytes}
use Rattle.record_writer.specs.declared.fault.WriteFault.{WriteFault}
use Rattle.record_writer.specs.declared.fault.WriteFault.TheVariants as write_fault
use Rattle.club_rules.specs.GameRules.{GameRules}
use Rattle.club_core.specs.declared.rows.GameRow.{GameRow}
use Rattle.club_core.specs.Game.{Game}
use Rattle.club_core.specs.State.{draughts, shogi, place}
use Rattle.club_exports.specs.Title.{Title, timed}
use Rattle.club_exports.specs.internal.Written.{AddsRecord, BeginsRecord}
use Rattle.club_exports.specs.PdnRecords.{IsPdnText}
use Rattle.club_exports.specs.CsaRecords.{IsCsaText}
use Rattle.club_rows.specs.Club.{ClubGame, ClubState, both_games}
use Rattle.club_answers.specs.declared.exported.RecordNames.{RecordNames}
use Rattle.club_answers.specs.declared.exported.ViewFault.{ViewFault}
use Rattle.club_answers.specs.declared.exported.ViewFault.TheVariants as stopped
use Rattle.club_reads.specs.declared.fault.LookupFault.TheVariants as call_fault
use Rattle.club_answers.specs.Exported.{AreNamesOf, IsTitleOf}

module _ {P M E T : Type 0} (rules : GameRules P M E T) where
  module _ (IsText : Title E → List (M × ℕ) → List ℕ → Type 0) where
    -- the record of a game was appended: its header, and its moves with the seconds that each took
    abbrev pub AddsNamed : RecordNames → Game M → Option (List ℕ) → Option (List ℕ) → Type 0
    AddsNamed names game before now =
        (title : Title E) × IsTitleOf rules names game title
        × AddsRecord IsText title (timed game.start game.entries) before now

    -- a prefix of the record was appended
    abbrev pub BeginsNamed : RecordNames → Game M → Option (List ℕ) → Option (List ℕ) → Type 0
    BeginsNamed names game before now =
        (title : Title E) × IsTitleOf rules names game title
        × BeginsRecord IsText title (timed game.start game.entries) before now

-- whether the writer failed, and no call of the club
abbrev pub is_output : ViewFault → Bool
is_output stopped.Output = true
is_output (stopped.Call fault) = false

-- no call of the club failed; a failed writer leaves the connection as it is
abbrev pub no_call_failed : {A : Type 0} → Result A ViewFault → Bool
no_call_failed (Ok a) = true
no_call_failed (Err why) = is_output why

-- the fault for an error of the record writer
abbrev pub stopped_by : WriteFault → ViewFault
stopped_by write_fault.Memory = stopped.Call call_fault.Memory
stopped_by (write_fault.Writer error) = stopped.Output

-- the header of the record of the game in this row, with these names
pub record IsTitleBy {E : Type 0} (names : RecordNames) (row : GameRow E) (title : Title E) : Type 0 where
  pub event : title.event ≡ string_bytes names.event
  pub first : title.first ≡ string_bytes names.first
  pub second : title.second ≡ string_bytes names.second
  pub start : title.start ≡ row.start
  pub end : title.end ≡ row.end
  pub result : title.result ≡ row.result

-- the record of a game with these names, in the format of its kind, was appended
abbrev pub AddsGame : RecordNames → ClubGame → Option (List ℕ) → Option (List ℕ) → Type 0
AddsGame names (draughts game) before now = AddsNamed both_games.draughts IsPdnText names game before now
AddsGame names (shogi game) before now = AddsNamed both_games.shogi IsCsaText names game before now

-- a prefix of that record was appended
abbrev pub BeginsGame : RecordNames → ClubGame → Option (List ℕ) → Option (List ℕ) → Type 0
BeginsGame names (draughts game) before now = BeginsNamed both_games.draughts IsPdnText names game before now
BeginsGame names (shogi game) before now = BeginsNamed both_games.shogi IsCsaText names game before now

-- the record of the game with this number was written, or nothing if there is no such game
abbrev pub IsExported : ClubState → ℕ → Bool → Option (List ℕ) → Option (List ℕ) → Type 0
IsExported s id true before now =
    (game : ClubGame) × (place s.games id ≡ Some game) × (names : RecordNames) × AreNamesOf s game names
    × AddsGame names game before now
IsExported s id false before now = (place s.games id ≡ None) × (now ≡ before)

-- nothing, or a prefix of that record, was appended
abbrev pub IsWrittenSome : ClubState → ℕ → Option (List ℕ) → Option (List ℕ) → Type 0
IsWrittenSome s id before now =
    (now ≡ before)
    ⊎ ((game : ClubGame) × (place s.games id ≡ Some game) × (names : RecordNames) × AreNamesOf s game names
    × BeginsGame names game before now)
