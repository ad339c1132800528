use Rattle.std.proofs.Common.{None, ap, refl, replicate}
use Rattle.squares.specs.DraughtsBoard.{board_of}
use Rattle.squares.proofs.DraughtsKept.{kept_empty, kept_from, cells_from}
use Rattle.squares.proofs.draughts.position.DPos.new.Goals as goal

pub returns : goal.returns
unfolding board_of
returns c =
    let kept = kept_empty c.new.result c.new-2.result c.new-3.result c.new.ensures c.new-2.ensures c.new-3.ensures in
    let board = ap board_of (cells_from (replicate 50 None) c.new.result c.new-2.result c.new-3.result kept) in
    λ i. record { board = board i; turn = c.args.turn }

pub invariant_of-result : goal.invariant_of-result
invariant_of-result c = kept_from (replicate 50 None) c.new.result c.new-2.result c.new-3.result
    (kept_empty c.new.result c.new-2.result c.new-3.result c.new.ensures c.new-2.ensures c.new-3.ensures)
