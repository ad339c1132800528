use Rattle.std.proofs.Common.{refl}
use Rattle.shogi_moves.specs.internal.Listing.{all_drops}
use Rattle.shogi_moves.proofs.move_visitor.seek_drops.Goals as goal

pub loop-kind-init : goal.loop-kind-init
unfolding all_drops
loop-kind-init g c = refl
