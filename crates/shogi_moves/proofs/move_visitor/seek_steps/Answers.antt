use Rattle.std.proofs.Common.{◌∙◌, sym, ap}
use Rattle.shogi_moves.specs.internal.Layouts.{position_of}
use Rattle.shogi_moves.specs.internal.Listing.{steps_from}
use Rattle.shogi_moves.proofs.SeekLemmas.{steps-own, sought_popped}
use Rattle.shogi_moves.proofs.move_visitor.seek_steps.Goals as goal

pub loop-from-init : goal.loop-from-init
loop-from-init g c =
    let s = g.S.MoveVisitor in
    let p = position_of c.args.layout.now in
    let rest = c.squares_of_side-rest in
    record {
      sought = ap (s.plus c.args.seeker.now)
          (steps-own p (s.test p) (g.met.S.MoveVisitor.only p) rest.result rest.ensures);
      each = λ from e. sym (rest.ensures from) ∙ e;
    }

pub loop-from-preserved : goal.loop-from-preserved
loop-from-preserved g c =
    let s = g.S.MoveVisitor in
    let f = steps_from (s.test (position_of c.args.layout.now)) in
    sought_popped s.plus g.met.S.MoveVisitor.plus_more f _ _ _ _ _ _ _ c.in-Some.ensures c.loop-from.invariant
    (c.in_ok-seek_steps_from.ensures ∙ ap (λ from. s.plus c.loop-from.seeker (f from)) c.of_number.ensures)
