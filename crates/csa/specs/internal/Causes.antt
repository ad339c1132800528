-- The numbers of the reasons why a move is illegal. No promise of the program rests on these definitions.
use Rattle.std.specs.Prelude.{ℕ}
use Rattle.shogi_moves.specs.declared.checking.Illegal.{Illegal}
use Rattle.shogi_moves.specs.declared.checking.Illegal.TheVariants as illegal

abbrev pub cause_number : Illegal → ℕ
cause_number illegal.NoSuchMove = 13
cause_number illegal.NotInHand = 14
cause_number illegal.MustPromote = 15
cause_number illegal.DeadDrop = 16
cause_number illegal.TwoPawns = 17
cause_number illegal.KingAttacked = 18
cause_number illegal.DropMate = 19
