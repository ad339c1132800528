use Rattle.std.proofs.Common.{SFits, w64, to_z-of_z, arith}
use Rattle.std.proofs.lemmas.Int.{ints}
use Rattle.club_answers.proofs.viewed.line.Goals as goal

pub returns-clause-rows : goal.returns-clause-rows
returns-clause-rows g c clean content terms old k tells =
    let fits : SFits w64 c.from-number.result = rw c.from-number.ensures (omega (arith, ints, c.ranges.game.fits)) in
    tells _ (rw (to_z-of_z fits, c.from-number.ensures) at (c.in_ok-rows.ensures.rows clean content k).0)
