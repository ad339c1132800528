use Rattle.std.proofs.Common.{refl}
use Rattle.squares.specs.ShogiOpening.{opening}
use Rattle.squares.proofs.shogi.opening.no_hands.Goals as goal

pub returns : goal.returns
unfolding opening
returns c = refl
