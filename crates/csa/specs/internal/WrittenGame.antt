-- The whole text of a game, and the ends that it may have. No promise of the program rests on these definitions.
use Rattle.std.specs.Prelude.{◌≡◌, Option, Some, None, List}
use Rattle.squares.specs.declared.shogi.moves.SMove.{SMove}
use Rattle.squares.specs.ShogiSets.{ShogiPosition}
use Rattle.squares.specs.ShogiOpening.{opening}
use Rattle.shogi_moves.specs.Declaring.{CanDeclare}
use Rattle.shogi_repetition.specs.declared.ends.SEnd.{SEnd}
use Rattle.shogi_repetition.specs.Line.{last_position}
use Rattle.shogi_repetition.specs.Ends.{EndsSo, outcome_of}
use Rattle.csa.specs.declared.head.CsaEnd.{CsaEnd}
use Rattle.csa.specs.declared.head.CsaEnd.TheVariants as csa_end

-- If the rules ended the game, the text states their end or its score. If not, it states no end by the rules, and a
-- declared win only if the side to move may declare it in the last position.
abbrev pub TellsEnd : Option SEnd → Option CsaEnd → ShogiPosition → Type 0
TellsEnd (Some end) (Some (csa_end.Rule told)) p = told ≡ end
TellsEnd (Some end) (Some (csa_end.Recorded claim)) p = claim ≡ outcome_of end p.turn
TellsEnd (Some end) _ p = ⊥
TellsEnd None (Some (csa_end.Rule told)) p = ⊥
TellsEnd None (Some csa_end.Declared) p = CanDeclare p
TellsEnd None _ p = Unit {0}

-- the end agrees with the line of moves
abbrev pub FitsEnd : Option CsaEnd → List SMove → Type 0
FitsEnd told ms = (end : Option SEnd) × EndsSo opening ms end × TellsEnd end told (last_position opening ms)
