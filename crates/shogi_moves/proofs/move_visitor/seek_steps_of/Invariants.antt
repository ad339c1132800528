use Rattle.std.proofs.Common.{◌≡◌, true, length}
use Rattle.masks.specs.internal.Words.{ascending}
use Rattle.shogi_moves.specs.internal.Layouts.{position_of}
use Rattle.shogi_moves.specs.internal.Search.{piece_reaches}
use Rattle.shogi_moves.specs.internal.Listing.{steps_between, steps_from}
use Rattle.shogi_moves.proofs.SeekLemmas.{Sought}
use Rattle.shogi_moves.proofs.move_visitor.seek_steps_of.Given as goal

abbrev pub invariant-loop-to : goal.invariant-loop-to
invariant-loop-to g l =
    let s = g.S.MoveVisitor in
    let p = position_of l.layout in
    Sought s.plus (steps_between (s.test p) l.mover.from) (λ to. piece_reaches l.layout.board l.mover.piece l.mover.from to ≡ true)
    (s.plus l.fn.seeker (steps_from (s.test p) l.mover.from)) l.rest l.seeker

abbrev pub decreases-loop-to : goal.decreases-loop-to
decreases-loop-to g l = length (ascending 0 81 l.rest)
