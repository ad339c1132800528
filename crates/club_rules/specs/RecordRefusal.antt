-- The refusals of records: their numbers, their names and their texts.
use Rattle.std.specs.Prelude.{List, [], ℕ, ◌++◌, codes, decimal}
use Rattle.club_rules.specs.declared.records.RecordFormat.{RecordFormat}
use Rattle.club_rules.specs.declared.records.RecordFormat.TheVariants.{Pdn, Csa}
use Rattle.club_rules.specs.declared.record_refusals.RecordRefusal.{RecordRefusal}
use Rattle.club_rules.specs.declared.record_refusals.RecordRefusal.TheVariants.{BadText, Version, OtherType}
use Rattle.club_rules.specs.declared.record_refusals.RecordRefusal.TheVariants.{OtherOpening, Ambiguous, Illegal}
use Rattle.club_rules.specs.declared.record_refusals.RecordRefusal.TheVariants.{AfterEnd, Unfinished, ResultDiffers}
use Rattle.club_rules.specs.MoveRefusal.{move_refusal_number}

-- the number of the refusal in each format
abbrev pub by_format : RecordFormat → ℕ → ℕ → ℕ
by_format Pdn pdn csa = pdn
by_format Csa pdn csa = csa

-- the number of a record's refusal
abbrev pub record_refusal_number : RecordRefusal → ℕ
record_refusal_number (BadText format place) = by_format format 20 40
record_refusal_number Version = 41
record_refusal_number OtherType = 23
record_refusal_number (OtherOpening format) = by_format format 24 42
record_refusal_number (Ambiguous ply) = 21
record_refusal_number (Illegal format ply cause) = by_format format 22 43
record_refusal_number (AfterEnd format ply) = by_format format 26 45
record_refusal_number (Unfinished format) = by_format format 25 44
record_refusal_number (ResultDiffers format) = by_format format 27 46

-- the name of a record's refusal
abbrev pub record_refusal_name : RecordRefusal → List ℕ
record_refusal_name (BadText format place) = codes "BadText"
record_refusal_name Version = codes "Version"
record_refusal_name OtherType = codes "OtherType"
record_refusal_name (OtherOpening format) = codes "OtherOpening"
record_refusal_name (Ambiguous ply) = codes "Ambiguous"
record_refusal_name (Illegal format ply cause) = codes "Illegal"
record_refusal_name (AfterEnd format ply) = codes "AfterEnd"
record_refusal_name (Unfinished format) = codes "Unfinished"
record_refusal_name (ResultDiffers format) = codes "ResultDiffers"

-- the parameters after the name, each after a space; the reason for an illegal move is given by its number
abbrev pub record_refusal_tail : RecordRefusal → List ℕ
record_refusal_tail (BadText format place) = codes " " ++ decimal place
record_refusal_tail (Ambiguous ply) = codes " " ++ decimal ply
record_refusal_tail (Illegal format ply cause) =
    codes " " ++ decimal ply ++ codes " " ++ decimal (move_refusal_number cause)
record_refusal_tail (AfterEnd format ply) = codes " " ++ decimal ply
record_refusal_tail Version = []
record_refusal_tail OtherType = []
record_refusal_tail (OtherOpening format) = []
record_refusal_tail (Unfinished format) = []
record_refusal_tail (ResultDiffers format) = []
