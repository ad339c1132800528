use Rattle.std.proofs.Common.{◌∙◌, sym}
use Rattle.shogi_moves.specs.internal.Layouts.{position_of}
use Rattle.shogi_moves.proofs.SeekLemmas.{step-pseudo, none_passing, sought_none}
use Rattle.shogi_moves.proofs.move_visitor.seek_step.Goals as goal

pub returns-then-not-passes : goal.returns-then-not-passes
returns-then-not-passes g c =
    let p = position_of c.args.layout.now in
    let r = c.requires in
    sought_none g.S.MoveVisitor.plus g.met.S.MoveVisitor.plus_none _ _
    (none_passing p (g.S.MoveVisitor.test p) (g.met.S.MoveVisitor.only p) _
    (sym (step-pseudo p _ _ r.stands _ r.own r.reaches r.lands c.args.promote) ∙ sym c.passes.ensures
    ∙ c.if-not-passes.true))

pub take-requires : goal.take-requires
take-requires g c =
    let p = position_of c.args.layout.now in
    let r = c.requires in
    sym (step-pseudo p _ _ r.stands _ r.own r.reaches r.lands c.args.promote) ∙ sym c.passes.ensures
    ∙ c.if-not-passes.false
