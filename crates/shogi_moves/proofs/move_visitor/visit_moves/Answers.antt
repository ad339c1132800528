use Rattle.shogi_moves.specs.internal.Listing.{all_moves}
use Rattle.shogi_moves.proofs.SeekLemmas.{sought_both}
use Rattle.shogi_moves.proofs.move_visitor.visit_moves.Goals as goal

pub returns : goal.returns
unfolding all_moves
returns g c = sought_both g.S.MoveVisitor.plus g.met.S.MoveVisitor.plus_more _ _ _ _ _ c.in_ok-seek_steps.ensures
    c.in_ok-seek_drops.ensures
