use Rattle.std.proofs.Common.{◌∙◌, sym, ap, arith}
use Rattle.std.specs.Prelude.{not, is_some}
use Rattle.shogi_moves.proofs.LineLemmas.{walk-edge, walk-end, walk-here, walk-stopped, walk-on}
use Rattle.shogi_moves.proofs.reaching.comes_to.Goals as goal

pub returns-in-None : goal.returns-in-None
returns-in-None c = sym (walk-edge _ _ _ _ _ _ (sym c.step.ensures ∙ c.in-None.is)) ∙ c.loop.invariant

pub returns-then-eq : goal.returns-then-eq
returns-then-eq c =
    sym
    (walk-here _ _ _ _ _ _ _ (sym c.step.ensures ∙ c.in-Some.is) (omega (arith, c.loop-test.true))
    (sym c.eq.ensures ∙ c.if-eq.true))
    ∙ c.loop.invariant

pub returns-then-is_some : goal.returns-then-is_some
returns-then-is_some c =
    sym
    (walk-stopped _ _ _ _ _ _ _ (sym c.step.ensures ∙ c.in-Some.is) (omega (arith, c.loop-test.true))
    (sym c.eq.ensures ∙ c.if-eq.false)
    (ap (λ o. not (is_some o)) (sym c.piece_at.ensures) ∙ ap not (sym c.is_some.ensures ∙ c.if-is_some.true)))
    ∙ c.loop.invariant

pub loop-preserved : goal.loop-preserved
loop-preserved c =
    sym
    (walk-on _ _ _ _ _ _ _ (sym c.step.ensures ∙ c.in-Some.is) _ (omega (arith, c.loop-test.true))
    (sym c.eq.ensures ∙ c.if-eq.false)
    (ap (λ o. not (is_some o)) (sym c.piece_at.ensures) ∙ ap not (sym c.is_some.ensures ∙ c.if-is_some.false)))
    ∙ c.loop.invariant

pub returns : goal.returns
returns c = sym (walk-end _ _ _ _ _ _ (omega (arith, c.loop-test.false))) ∙ c.loop.invariant
