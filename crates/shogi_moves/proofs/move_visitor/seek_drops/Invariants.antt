use Rattle.std.proofs.Common.{◌≡◌, drop}
use Rattle.std.specs.List.{flat_map}
use Rattle.shogi_moves.specs.internal.Layouts.{position_of}
use Rattle.shogi_moves.specs.internal.Listing.{drops_of, all_drops}
use Rattle.shogi_moves.proofs.move_visitor.seek_drops.Given as goal

abbrev pub invariant-loop-kind : goal.invariant-loop-kind
invariant-loop-kind g l =
    let s = g.S.MoveVisitor in
    let p = position_of l.layout in
    s.plus l.seeker (flat_map (drops_of (s.test p)) (drop l.kind-index l.kind-items))
    ≡ s.plus l.fn.seeker (all_drops (s.test p))
