use Rattle.std.proofs.Common.{◌∙◌, true, false, sym, ap}
use Rattle.shogi_moves.specs.internal.Search.{attacked}
use Rattle.shogi_moves.proofs.KingLemmas.{kings-attacked, any-popped}
use Rattle.shogi_moves.proofs.kings.is_king_attacked.Goals as goal

pub loop-square-init : goal.loop-square-init
loop-square-init c = kings-attacked c.args.board.now c.args.side c.kings_of-rest.result c.kings_of-rest.ensures

pub returns-then-is_attacked : goal.returns-then-is_attacked
returns-then-is_attacked c =
    let a = attacked c.args.board.now c.args.side in
    any-popped a _ _ _ true _ c.in-Some.ensures.0 c.loop-square.invariant
    (ap a (sym c.of_number.ensures) ∙ sym c.is_attacked.ensures ∙ c.if-is_attacked.true)

pub loop-square-preserved : goal.loop-square-preserved
loop-square-preserved c =
    let a = attacked c.args.board.now c.args.side in
    any-popped a _ _ _ false _ c.in-Some.ensures.0 c.loop-square.invariant
    (ap a (sym c.of_number.ensures) ∙ sym c.is_attacked.ensures ∙ c.if-is_attacked.false)
