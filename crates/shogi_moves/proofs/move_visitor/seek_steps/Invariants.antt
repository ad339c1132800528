use Rattle.std.proofs.Common.{◌≡◌, true, length}
use Rattle.std.specs.FinMap as map
use Rattle.masks.specs.internal.Words.{ascending}
use Rattle.squares.specs.internal.ShogiWords.{is_side}
use Rattle.shogi_moves.specs.internal.Layouts.{position_of}
use Rattle.shogi_moves.specs.internal.Listing.{steps_from, all_steps}
use Rattle.shogi_moves.proofs.SeekLemmas.{Sought}
use Rattle.shogi_moves.proofs.move_visitor.seek_steps.Given as goal

abbrev pub invariant-loop-from : goal.invariant-loop-from
invariant-loop-from g l =
    let s = g.S.MoveVisitor in
    let p = position_of l.layout in
    Sought s.plus (steps_from (s.test p)) (λ from. is_side l.layout.turn (map.get l.layout.board from) ≡ true)
    (s.plus l.fn.seeker (all_steps (s.test p))) l.rest l.seeker

abbrev pub decreases-loop-from : goal.decreases-loop-from
decreases-loop-from g l = length (ascending 0 81 l.rest)
