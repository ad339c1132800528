use Rattle.std.proofs.Common.{◌∙◌, sym, ap}
use Rattle.std.specs.List.{flat_map}
use Rattle.shogi_moves.specs.internal.Layouts.{position_of}
use Rattle.shogi_moves.specs.internal.Listing.{drops_on, drops_of}
use Rattle.shogi_moves.proofs.SeekLemmas.{drops-none, sought_none}
use Rattle.shogi_moves.proofs.move_visitor.seek_drops_of.Goals as goal

pub returns-then-count_in_hand-eq0 : goal.returns-then-count_in_hand-eq0
returns-then-count_in_hand-eq0 g c =
    let p = position_of c.args.layout.now in
    sought_none g.S.MoveVisitor.plus g.met.S.MoveVisitor.plus_none _ _
    (drops-none p (g.S.MoveVisitor.test p) (g.met.S.MoveVisitor.only p) _ (sym c.count_in_hand.ensures ∙ c.if-count_in_hand-eq0.true))

pub loop-to-init : goal.loop-to-init
unfolding drops_of
loop-to-init g c =
    let s = g.S.MoveVisitor in
    let drops = drops_on (s.test (position_of c.args.layout.now)) c.args.kind in
    ap (λ xs. s.plus c.args.seeker.now (flat_map drops xs)) c.all_squares.ensures
