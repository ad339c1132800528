use Rattle.std.proofs.Common.{refl}
use Rattle.shogi_moves.proofs.laws.turn_passes.Goals as goal

pub returns : goal.returns
returns c = λ p m legal. refl
