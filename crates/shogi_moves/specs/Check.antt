-- The answer of a move check, by the rules.
use Rattle.std.specs.Prelude.{◌≡◌, ◌↔◌, Result, Err, IsOk}
use Rattle.squares.specs.declared.shogi.moves.SMove.{SMove}
use Rattle.squares.specs.ShogiSets.{ShogiPosition}
use Rattle.shogi_moves.specs.declared.checking.Illegal.{Illegal}
use Rattle.shogi_moves.specs.Rules.{Legal, FirstBroken}

-- The answer of a move check: the move is legal, or the reason why it is not.
abbrev pub Answer : Type 0
Answer = Result (Unit {0}) Illegal

-- Legal moves pass, and every other move is refused for the first rule that it breaks.
pub record IsCheck (p : ShogiPosition) (m : SMove) (answer : Answer) : Type 0 where
  pub legal : IsOk answer ↔ Legal p m
  pub refused : (rule : Illegal) → (answer ≡ Err rule) ↔ FirstBroken p m rule
