use Rattle.std.proofs.Common.{length, refl, arith}
use Rattle.std.proofs.lemmas.Option.{slice_get_read}
use Rattle.club_audit.proofs.LaterKeys.{so-far-all, so-far-here, so-far-more}
use Rattle.club_audit.proofs.keys.are_numbered.Goals as goal

pub returns-in-None-clause-complete : goal.returns-in-None-clause-complete
returns-in-None-clause-complete c = λ all.
    let rows = c.args.keys.now in
    let k = c.loop-row.row-index in
    let found = slice_get_read rows (length rows) k c.row-item.result refl c.loop-row-test.true c.row-item.is in
    let (place, after) = so-far-here c.args.count rows k _ c.row-item.result found c.loop-row.invariant all in
    absurd (c.place_after.ensures.none c.in-None.is place after)

pub loop-row-preserved : goal.loop-row-preserved
loop-row-preserved c =
    let rows = c.args.keys.now in
    let k = c.loop-row.row-index in
    let found = slice_get_read rows (length rows) k c.row-item.result refl c.loop-row-test.true c.row-item.is in
    so-far-more c.args.count rows k _ _ c.row-item.result found c.in-Some.ensures.some c.loop-row.invariant

pub returns-clause-sound : goal.returns-clause-sound
returns-clause-sound c = λ _. so-far-all c.args.count c.args.keys.now c.loop-row.row-index _
    (omega (arith, c.loop-row-test.false)) c.loop-row.invariant
