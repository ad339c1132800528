use Rattle.std.proofs.Common.{◌∙◌, sym, ap, arith}
use Rattle.std.specs.Prelude.{not, is_some}
use Rattle.std.specs.FinSet as set
use Rattle.shogi_moves.proofs.SeekLemmas.{gather-edge, gather-end, gather-stopped, gather-on}
use Rattle.shogi_moves.proofs.reaching.with_line.Goals as goal

pub returns-in-None : goal.returns-in-None
returns-in-None c to = gather-edge _ to _ _ _ _ _ (sym c.step.ensures ∙ c.in-None.is) ∙ c.loop.invariant to

pub returns-then-is_some : goal.returns-then-is_some
returns-then-is_some c to =
    gather-stopped _ to _ _ _ _ _ _ (sym c.step.ensures ∙ c.in-Some.is) _
    (c.with-found.ensures ∙ ap (set.insert c.loop.found) c.number.ensures.value) (omega (arith, c.loop-test.true))
    (ap (λ o. not (is_some o)) (sym c.piece_at.ensures) ∙ ap not (sym c.is_some.ensures ∙ c.if-is_some.true))
    ∙ c.loop.invariant to

pub loop-preserved : goal.loop-preserved
loop-preserved c to =
    gather-on _ to _ _ _ _ _ _ (sym c.step.ensures ∙ c.in-Some.is) _
    (c.with-found.ensures ∙ ap (set.insert c.loop.found) c.number.ensures.value) _ (omega (arith, c.loop-test.true))
    (ap (λ o. not (is_some o)) (sym c.piece_at.ensures) ∙ ap not (sym c.is_some.ensures ∙ c.if-is_some.false))
    ∙ c.loop.invariant to

pub returns : goal.returns
returns c to = gather-end _ to _ _ _ _ _ (omega (arith, c.loop-test.false)) ∙ c.loop.invariant to
