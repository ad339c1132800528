use Rattle.std.proofs.Common.{◌∙◌, sym}
use Rattle.shogi_moves.specs.internal.Layouts.{position_of}
use Rattle.shogi_moves.specs.internal.Listing.{drops_on}
use Rattle.shogi_moves.proofs.SeekLemmas.{none_passing, sought_none}
use Rattle.shogi_moves.proofs.move_visitor.seek_drop_on.Goals as goal

pub returns-then-not-is_pseudo : goal.returns-then-not-is_pseudo
unfolding drops_on
returns-then-not-is_pseudo g c =
    let p = position_of c.args.layout.now in
    sought_none g.S.MoveVisitor.plus g.met.S.MoveVisitor.plus_none _ _
    (none_passing p (g.S.MoveVisitor.test p) (g.met.S.MoveVisitor.only p) _
    (sym c.is_pseudo.ensures ∙ c.if-not-is_pseudo.true))

pub returns : goal.returns
unfolding drops_on
returns g c = c.in_ok-take.ensures
