use Rattle.std.proofs.Common.{arith}
use Rattle.std.proofs.lemmas.Option.{slice_get-get_or}
use Rattle.club_audit.proofs.ClosingLemmas.{so-far-all, so-far-here, so-far-more}
use Rattle.club_audit.proofs.closings.are_closings.Goals as goal

pub returns-in-None-clause-complete : goal.returns-in-None-clause-complete
returns-in-None-clause-complete c = λ all.
    let rows = c.args.closings.now in
    let k = c.loop-row.row-index in
    let (event, after) = so-far-here c.args.count rows k _ _ (slice_get-get_or rows k _ c.loop-row-test.true)
    c.loop-row.invariant all in
    absurd (c.event_after.ensures.none c.in-None.is event after)

pub loop-row-preserved : goal.loop-row-preserved
loop-row-preserved c =
    let rows = c.args.closings.now in
    let k = c.loop-row.row-index in
    so-far-more c.args.count rows k _ _ _ (slice_get-get_or rows k _ c.loop-row-test.true) c.in-Some.ensures.some
    c.loop-row.invariant

pub returns-clause-sound : goal.returns-clause-sound
returns-clause-sound c = λ _. so-far-all c.args.count c.args.closings.now c.loop-row.row-index _
    (omega (arith, c.loop-row-test.false)) c.loop-row.invariant
