use Rattle.std.proofs.Common.{arith, ◌∙◌, sym}
use Rattle.club_audit.proofs.StandingLemmas.{left_next, left_none, left_end, none_empty}
use Rattle.club_audit.proofs.standings.are_those.Goals as goal

pub returns-in-None-clause-complete : goal.returns-in-None-clause-complete
returns-in-None-clause-complete c = λ all.
    absurd
    (left_none _ _ c.args.rows.now c.loop-row.row-index c.loop-row.invariant c.loop-row-test.true c.pair_in.result
    _ c.pair_in.ensures (sym c.remove.ensures.value ∙ c.in-None.is) all)

pub loop-row-preserved : goal.loop-row-preserved
loop-row-preserved c =
    left_next _ _ c.args.rows.now c.loop-row.row-index c.loop-row.invariant c.loop-row-test.true c.pair_in.result
    _ c.pair_in.ensures _ c.in-Some.sums
    (sym c.remove.ensures.value ∙ c.in-Some.is) (c.are_sums_of.ensures.sound c.if-not-are_sums_of.false)
    c.remove.ensures.updates.0

pub returns-clause-complete : goal.returns-clause-complete
returns-clause-complete c = λ all.
    let none =
    (left_end _ _ c.args.rows.now c.loop-row.row-index c.loop-row.invariant
    (omega (arith, c.loop-row-test.false))).1 all in
    c.is_empty.ensures.1 (none_empty c.loop-row.left none)
