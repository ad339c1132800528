use Rattle.std.proofs.Common.{sym, ap, ◌∙◌}
use Rattle.shogi_moves.specs.internal.Layouts.{position_of}
use Rattle.shogi_moves.specs.Rules.{may_land}
use Rattle.shogi_moves.specs.internal.Listing.{steps_between}
use Rattle.shogi_moves.proofs.SeekLemmas.{steps-no_landing, sought_none, sought_both}
use Rattle.shogi_moves.proofs.move_visitor.seek_between.Goals as goal

pub returns-then-not-may_land : goal.returns-then-not-may_land
returns-then-not-may_land g c =
    let p = position_of c.args.layout.now in
    sought_none g.S.MoveVisitor.plus g.met.S.MoveVisitor.plus_none _ _
    (steps-no_landing p _ _ c.requires.stands (g.S.MoveVisitor.test p) (g.met.S.MoveVisitor.only p) _
    (ap (may_land p.turn) (sym c.piece_at.ensures) ∙ sym c.may_land.ensures ∙ c.if-not-may_land.true))

pub returns : goal.returns
unfolding steps_between
returns g c = sought_both g.S.MoveVisitor.plus g.met.S.MoveVisitor.plus_more _ _ _ _ _ c.in_ok-seek_step.ensures
    c.in_ok-seek_step-2.ensures
