-- The text of each refusal. No promise of the program rests on these definitions.
use Rattle.std.specs.Prelude.{ℕ, List, codes}
use Rattle.draughts_moves.specs.declared.checking.Illegal.{Illegal}
use Rattle.draughts_moves.specs.declared.checking.Illegal.TheVariants.{NoSuchMove, MustCapture, NotLongest}

abbrev pub rule_text : Illegal → List ℕ
rule_text NoSuchMove = codes "no piece of the side to move can move so"
rule_text MustCapture = codes "a piece must be taken"
rule_text NotLongest = codes "as many pieces as can be must be taken"
