-- The records of draughts.
use Rattle.std.specs.Prelude.{ℕ, List}
use Rattle.squares.specs.declared.draughts.moves.DMove.{DMove}
use Rattle.club_rules.specs.declared.records.RecordFormat.TheVariants.{Pdn}
use Rattle.club_rules.specs.Records.{Reading, GameRecords}
use Rattle.club_games.specs.internal.PdnOnly.{pdn-part}
use Rattle.club_games.specs.PdnRecord.{IsPdnPart}
use Rattle.squares.specs.TheOnly.{TheOnly}

-- the reading of a part of a text, which the grammar and the rules determine
abbrev pub pdn_record : List ℕ → ℕ → Reading DMove
pdn_record text part = let only : TheOnly (IsPdnPart text part) = pdn-part text part in only.value

-- the records of draughts: texts in PDN
abbrev pub draughts_records : GameRecords DMove
draughts_records = record { format = Pdn; read = pdn_record }
