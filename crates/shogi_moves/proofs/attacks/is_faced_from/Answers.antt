use Rattle.std.proofs.Common.{◌∙◌, sym, arith}
use Rattle.shogi_moves.proofs.FacingLemmas.{look-edge, look-end, look-found, look-on}
use Rattle.shogi_moves.proofs.attacks.is_faced_from.Goals as goal

pub returns-in-None : goal.returns-in-None
returns-in-None c = sym (look-edge _ _ _ _ _ _ (sym c.step.ensures ∙ c.in-None.is)) ∙ c.loop-distance.invariant

pub returns-in-Some-piece_at : goal.returns-in-Some-piece_at
returns-in-Some-piece_at c =
    c.comes_here.ensures
    ∙ sym
    (look-found _ _ _ _ _ _ _ (sym c.step.ensures ∙ c.in-Some.is)
    (omega (arith, c.loop-distance-test.true, c.farthest-distance-end.ensures)) _
    (sym c.piece_at.ensures ∙ c.in-Some-piece_at.is))
    ∙ c.loop-distance.invariant

pub loop-distance-preserved : goal.loop-distance-preserved
loop-distance-preserved c =
    sym
    (look-on _ _ _ _ _ _ _ (sym c.step.ensures ∙ c.in-Some.is) _
    (omega (arith, c.loop-distance-test.true, c.farthest-distance-end.ensures)) (sym c.piece_at.ensures ∙ c.in-None-piece_at.is))
    ∙ c.loop-distance.invariant

pub returns : goal.returns
returns c =
    sym (look-end _ _ _ _ _ _ (omega (arith, c.loop-distance-test.false, c.farthest-distance-end.ensures)))
    ∙ c.loop-distance.invariant
