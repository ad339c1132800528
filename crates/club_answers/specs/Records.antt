-- The record of one game.
use Rattle.std.specs.Prelude.{◌≡◌, ℕ, List, Some}
use Rattle.club_rules.specs.GameRules.{GameRules}
use Rattle.club_core.specs.Game.{Game}
use Rattle.club_core.specs.State.{draughts, shogi, place}
use Rattle.club_exports.specs.Title.{Title, timed}
use Rattle.club_exports.specs.CsaRecords.{IsCsaText}
use Rattle.club_exports.specs.PdnRecords.{IsPdnText}
use Rattle.club_rows.specs.Club.{ClubGame, ClubState, both_games}
use Rattle.club_answers.specs.Exported.{AreNamesOf, IsTitleOf}
use Rattle.club_answers.specs.declared.exported.RecordNames.{RecordNames}

-- the record of a game with these names: its header, and each move with its seconds, in the format of the rules
abbrev pub IsRecord : {P M E T : Type 0} → GameRules P M E T → (Title E → List (M × ℕ) → List ℕ → Type 0) → RecordNames
    → Game M → List ℕ → Type 0
IsRecord {E = E} rules IsText names game text =
    (title : Title E) × IsTitleOf rules names game title × IsText title (timed game.start game.entries) text

-- the record in the format of the game's kind
abbrev pub IsRecordOf : RecordNames → ClubGame → List ℕ → Type 0
IsRecordOf names (draughts game) text = IsRecord both_games.draughts IsPdnText names game text
IsRecordOf names (shogi game) text = IsRecord both_games.shogi IsCsaText names game text

-- the record of the game with this number
abbrev pub IsRecordAt : ClubState → ℕ → List ℕ → Type 0
IsRecordAt s id text =
    (game : ClubGame) × (place s.games id ≡ Some game) × (names : RecordNames) × AreNamesOf s game names
    × IsRecordOf names game text
