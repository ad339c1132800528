use Rattle.std.proofs.Common.{◌≡◌, ◌-◌, ◌+◌, ◌<◌, ◌∙◌, Some, inl, inr, sym, ap, arith, rules}
use Rattle.std.specs.FinMap as map
use Rattle.std.proofs.lemmas.Bool.{cases_eq}
use Rattle.shogi_moves.specs.internal.Facing.{farthest, faced_along}
use Rattle.shogi_moves.proofs.FacingLemmas.{look-edge, look-end, look-on}
use Rattle.shogi_moves.proofs.PinLemmas.{empty-without, other-without, first-without}
use Rattle.shogi_moves.proofs.pins.pinned_along.Goals as goal

pub returns-in-None : goal.returns-in-None
unfolding faced_along
returns-in-None c n other safe = sym (c.loop-distance.invariant.without n)
    ∙ look-edge _ _ _ _ _ _ (sym c.step.ensures ∙ c.in-None.is)

pub returns-then-is_faced_from : goal.returns-then-is_faced_from
unfolding faced_along
returns-then-is_faced_from c n other safe =
    let w = c.loop-distance.invariant in
    sym (w.without n)
    ∙ other-without _ _ _ _ _ _ _ (sym c.step.ensures ∙ c.in-Some.is) _
    (sym c.piece_at.ensures ∙ c.in-Some-piece_at.is) n (λ same. other (ap Some same))
    (omega (arith, c.loop-distance-test.true, c.farthest-distance-end.ensures))
    ∙ w.looked ∙ safe

pub returns-in-Some-piece_at : goal.returns-in-Some-piece_at
unfolding faced_along
returns-in-Some-piece_at c n other safe =
    let w = c.loop-distance.invariant in
    let next = sym c.step.ensures ∙ c.in-Some.is in
    let stands = sym c.piece_at.ensures ∙ c.in-Some-piece_at.is in
    let on : c.in-Some.next < 81 = search rules in
    sym (w.without n)
    ∙ elim (cases_eq c.in-Some.next n) [
      | inl same ↦
          first-without _ _ _ _ _ _ _ next _ stands n _ same on
          (omega (arith, c.loop-distance-test.true, c.farthest-distance-end.ensures))
          ∙ sym c.is_faced_from.ensures ∙ c.if-is_faced_from.false
      | inr differs ↦
          other-without _ _ _ _ _ _ _ next _ stands n differs
          (omega (arith, c.loop-distance-test.true, c.farthest-distance-end.ensures))
          ∙ w.looked ∙ safe
    ]

pub loop-distance-preserved : goal.loop-distance-preserved
loop-distance-preserved c =
    let w = c.loop-distance.invariant in
    let next = sym c.step.ensures ∙ c.in-Some.is in
    let none = sym c.piece_at.ensures ∙ c.in-None-piece_at.is in
    record {
      looked =
          sym
          (look-on _ _ _ _ _ _ _ next _ (omega (arith, c.loop-distance-test.true, c.farthest-distance-end.ensures)) none)
          ∙ w.looked;
      without = λ n.
          sym
          (empty-without _ _ _ _ _ _ _ next n _
          (omega (arith, c.loop-distance-test.true, c.farthest-distance-end.ensures)) none)
          ∙ w.without n;
    }

pub returns : goal.returns
unfolding faced_along
returns c n other safe = sym (c.loop-distance.invariant.without n)
    ∙ look-end _ _ _ _ _ _ (omega (arith, c.loop-distance-test.false, c.farthest-distance-end.ensures))
