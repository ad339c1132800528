use Rattle.std.proofs.Common.{◌∙◌, sym, ap}
use Rattle.shogi_moves.specs.internal.Layouts.{position_of}
use Rattle.shogi_moves.specs.internal.Listing.{steps_between}
use Rattle.shogi_moves.proofs.SeekLemmas.{steps-reached, sought_popped}
use Rattle.shogi_moves.proofs.move_visitor.seek_steps_of.Goals as goal

pub loop-to-init : goal.loop-to-init
loop-to-init g c =
    let a = c.args in
    let s = g.S.MoveVisitor in
    let p = position_of a.layout.now in
    let rest = c.attacks_from-rest in
    record {
      sought =
          ap (s.plus a.seeker.now)
          (steps-reached p a.mover.now.piece a.mover.now.from c.requires.stands (s.test p) (g.met.S.MoveVisitor.only p) rest.result
          rest.ensures);
      each = λ to e. sym (rest.ensures to) ∙ e;
    }

pub loop-to-preserved : goal.loop-to-preserved
loop-to-preserved g c =
    let s = g.S.MoveVisitor in
    let f = steps_between (s.test (position_of c.args.layout.now)) c.args.mover.now.from in
    sought_popped s.plus g.met.S.MoveVisitor.plus_more f _ _ _ _ _ _ _ c.in-Some.ensures c.loop-to.invariant
    (c.in_ok-seek_between.ensures ∙ ap (λ to. s.plus c.loop-to.seeker (f to)) c.of_number.ensures)
