-- The refusals of records: their numbers, their names and their texts. No promise of the program rests on these
-- definitions.
use Rattle.std.specs.Prelude.{List, ℕ, ◌++◌, codes, decimal}
use Rattle.club_rules.specs.declared.record_refusals.RecordRefusal.{RecordRefusal}
use Rattle.club_rules.specs.RecordRefusal.{record_refusal_number, record_refusal_name, record_refusal_tail}

-- the number, the name and the parameters, separated by spaces
abbrev pub record_refusal_text : RecordRefusal → List ℕ
record_refusal_text r = decimal (record_refusal_number r) ++ codes " " ++ record_refusal_name r ++ record_refusal_tail r
