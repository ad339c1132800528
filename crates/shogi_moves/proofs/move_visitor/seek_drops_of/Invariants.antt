use Rattle.std.proofs.Common.{◌≡◌, drop}
use Rattle.std.specs.List.{flat_map}
use Rattle.shogi_moves.specs.internal.Layouts.{position_of}
use Rattle.shogi_moves.specs.internal.Listing.{drops_on, drops_of}
use Rattle.shogi_moves.proofs.move_visitor.seek_drops_of.Given as goal

abbrev pub invariant-loop-to : goal.invariant-loop-to
invariant-loop-to g l =
    let s = g.S.MoveVisitor in
    let p = position_of l.layout in
    s.plus l.seeker (flat_map (drops_on (s.test p) l.kind) (drop l.to-index l.to-items))
    ≡ s.plus l.fn.seeker (drops_of (s.test p) l.kind)
