-- The records of shogi.
use Rattle.std.specs.Prelude.{ℕ, List}
use Rattle.squares.specs.declared.shogi.moves.SMove.{SMove}
use Rattle.club_rules.specs.declared.records.RecordFormat.TheVariants.{Csa}
use Rattle.club_rules.specs.Records.{Reading, GameRecords}
use Rattle.club_games.specs.internal.CsaOnly.{csa-part}
use Rattle.club_games.specs.CsaRecord.{IsCsaPart}
use Rattle.squares.specs.TheOnly.{TheOnly}

-- the reading of a part of a text, which the standard and the rules determine
abbrev pub csa_record : List ℕ → ℕ → Reading SMove
csa_record text part = let only : TheOnly (IsCsaPart text part) = csa-part text part in only.value

-- the records of shogi: texts in CSA
abbrev pub shogi_records : GameRecords SMove
shogi_records = record { format = Csa; read = csa_record }
