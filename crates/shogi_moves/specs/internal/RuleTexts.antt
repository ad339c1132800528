-- The text of each refusal. No promise of the program rests on these definitions.
use Rattle.std.specs.Prelude.{ℕ, List, codes}
use Rattle.shogi_moves.specs.declared.checking.Illegal.{Illegal}
use Rattle.shogi_moves.specs.declared.checking.Illegal.TheVariants as illegal

abbrev pub rule_text : Illegal → List ℕ
rule_text illegal.NoSuchMove = codes "no piece of the side to move can move so"
rule_text illegal.NotInHand = codes "the hand has no such piece"
rule_text illegal.MustPromote = codes "the piece must promote"
rule_text illegal.DeadDrop = codes "the piece could never move"
rule_text illegal.TwoPawns = codes "the file has an own pawn"
rule_text illegal.KingAttacked = codes "the own king would be attacked"
rule_text illegal.DropMate = codes "a dropped pawn may not mate"
