-- A part of a CSA text has exactly one reading, which is the computed one. No promise of the program rests on these
-- definitions.
use Rattle.std.proofs.Common.{◌≡◌, ℕ, zero, suc, List, Option, Some, None, Ok, Err, refl, sym, ap, ◌∙◌}
use Rattle.std.specs.Prelude.{slice_get}
use Rattle.squares.specs.declared.shogi.moves.SMove.{SMove}
use Rattle.club_rules.specs.Records.{Recorded, Reading, game, no_part, refused}
use Rattle.club_games.specs.internal.CsaComplete.{games-read, text-refused}
use Rattle.club_games.specs.internal.CsaReading.{RecordsRead, csa_reading, found_game, part_of, csa_part}
use Rattle.club_games.specs.CsaRecord.{IsTextOfGames, IsCsaPart}
use Rattle.club_games.specs.internal.CsaSound.{IsCsaReading, csa-read}
use Rattle.squares.specs.TheOnly.{TheOnly}

-- ---- the computed reading has the property

module _ (text : List ℕ) (before : ℕ) where
  found-is : (games : List (Recorded SMove)) (found : Option (Recorded SMove)) → IsTextOfGames text games
      → slice_get games before ≡ found → IsCsaPart text (suc before) (found_game found)
  found-is games None read at = record { games = games; read = read; at = at }
  found-is games (Some r) read at = record { games = games; read = read; at = at }

  read-is : (read : RecordsRead) → IsCsaReading text read → IsCsaPart text (suc before) (part_of before read)
  read-is (Ok games) is = found-is games (slice_get games before) is refl
  read-is (Err f) (no_memory, refuses) =
      record { found = f; no_memory = no_memory; refuses = refuses; named = refl }

pub part-is : (text : List ℕ) (part : ℕ) → IsCsaPart text part (csa_part text part)
part-is text zero = refl
part-is text (suc before) = read-is text before (csa_reading text) (csa-read text)

-- ---- a reading with the property is the computed one

pub part-only : (text : List ℕ) (part : ℕ) (other : Reading SMove) → IsCsaPart text part other
    → other ≡ csa_part text part
part-only text zero other is = is
part-only text (suc before) (game r) h =
    sym (ap (part_of before) (games-read text h.games h.read) ∙ ap found_game h.at)
part-only text (suc before) no_part h =
    sym (ap (part_of before) (games-read text h.games h.read) ∙ ap found_game h.at)
part-only text (suc before) (refused refusal) h =
    ap refused h.named ∙ sym (ap (part_of before) (text-refused text h.found h.no_memory h.refuses))

-- A part of a CSA text is a game, a refusal or no part, and only one of them.
abbrev pub csa-part : (text : List ℕ) (part : ℕ) → TheOnly (IsCsaPart text part)
csa-part text part = record { value = csa_part text part; is = part-is text part; only = part-only text part }
