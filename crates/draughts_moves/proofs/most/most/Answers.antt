use Rattle.std.proofs.Common.{rules, ◌≡◌, ◌≤◌, max, arith, sym, ap, ◌∙◌, subst}
use Rattle.draughts_moves.specs.internal.Capture.{IsMost}
use Rattle.draughts_moves.specs.Search.{greatest_at, most}
use Rattle.draughts_moves.proofs.MostLemmas.{IsMost-most}
use Rattle.draughts_moves.proofs.MaxLemmas.{most-able, popped_most, popped_end}
use Rattle.draughts_moves.proofs.most.most.Goals as goal

pub loop-square-init : goal.loop-square-init
loop-square-init c =
    let p = c.args.position.now in
    record {
      most_is = most-able p c.may_take-able.result c.may_take-able.ensures;
      few = omega arith;
    }

pub loop-square-preserved : goal.loop-square-preserved
loop-square-preserved c =
    let p = c.args.position.now in
    let w = c.loop-square in
    let n = c.in-Some.square in
    let step : c.max-most.result ≡ max w.most c.greatest_at.result = search rules in
    let value : c.greatest_at.result ≡ greatest_at p n = c.greatest_at.ensures.value in
    let few : c.greatest_at.result ≤ 50 = c.greatest_at.ensures.few in
    record {
      most_is = popped_most (greatest_at p) w.able c.pop.new.self n w.most c.max-most.result (most p)
          c.in-Some.ensures.0 w.invariant.most_is (step ∙ ap (max w.most) value);
      few = omega (arith, step, few, w.invariant.few);
    }

pub returns-clause-most : goal.returns-clause-most
returns-clause-most c =
    let p = c.args.position.now in
    let w = c.loop-square in
    subst (IsMost p)
    (sym (popped_end (greatest_at p) w.able w.most (most p) c.in_default.ensures.1 w.invariant.most_is))
    (IsMost-most p)
