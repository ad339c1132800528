-- The numbers of the reasons why a move is illegal. No promise of the program rests on these definitions.
use Rattle.std.specs.Prelude.{ℕ}
use Rattle.draughts_moves.specs.declared.checking.Illegal.{Illegal}
use Rattle.draughts_moves.specs.declared.checking.Illegal.TheVariants.{NoSuchMove, MustCapture, NotLongest}

abbrev pub cause_number : Illegal → ℕ
cause_number NoSuchMove = 10
cause_number MustCapture = 11
cause_number NotLongest = 12
