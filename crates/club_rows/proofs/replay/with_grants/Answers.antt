use Rattle.std.proofs.Common.{arith, refl}
use Rattle.std.proofs.lemmas.Option.{slice_get_read}
use Rattle.club_rows.proofs.GrantLemmas.{grants-next, grants-over}
use Rattle.club_rows.proofs.replay.with_grants.Goals as goal

pub loop-ruling-preserved : goal.loop-ruling-preserved
loop-ruling-preserved c =
    let rulings = c.args.rulings.now in
    let k = c.loop-ruling.ruling-index in
    let at = slice_get_read rulings _ k _ refl c.loop-ruling-test.true c.ruling-item.is in
    let here = grants-next c.args.side c.args.plies rulings k _ at in
    omega (arith, here, c.loop-ruling.invariant, c.granted_by-sum.ensures)

pub returns : goal.returns
returns c =
    let rest = grants-over c.args.side c.args.plies c.args.rulings.now c.loop-ruling.ruling-index
    (omega (arith, c.loop-ruling-test.false)) in
    omega (arith, rest, c.loop-ruling.invariant)
