use Rattle.std.proofs.Common.{refl, append_assoc}
use Rattle.draughts_moves.specs.Capture.{without}
use Rattle.draughts_moves.specs.Search.{jumps}
use Rattle.draughts_moves.proofs.jumps.jumps_from.Goals as goal

pub returns : goal.returns
unfolding jumps
returns c =
    let m = c.args.mover.now in
    let b = without c.args.position.now.board m.origin in
    rw (c.jumps_along-4.ensures.added b m.piece m.taken c.look-met.ensures refl)
    (rw (c.jumps_along-3.ensures.added b m.piece m.taken c.look-met.ensures refl)
    (rw (c.jumps_along-2.ensures.added b m.piece m.taken c.look-met.ensures refl)
    (rw (c.jumps_along.ensures.added b m.piece m.taken c.look-met.ensures refl, c.new-jumps.ensures)
    (simp append_assoc))))
