-- The refusals of moves in both games: their numbers, their names and their texts. No promise of the program rests on
-- these definitions.
use Rattle.std.specs.Prelude.{List, ℕ, ◌++◌, codes, decimal}
use Rattle.club_rules.specs.declared.refusals.MoveRefusal.{MoveRefusal}
use Rattle.club_rules.specs.MoveRefusal.{move_refusal_number, move_refusal_name, move_refusal_tail}

-- the number, the name and the offset if any, separated by spaces
abbrev pub move_refusal_text : MoveRefusal → List ℕ
move_refusal_text r = decimal (move_refusal_number r) ++ codes " " ++ move_refusal_name r ++ move_refusal_tail r
