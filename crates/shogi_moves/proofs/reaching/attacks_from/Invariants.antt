use Rattle.std.proofs.Common.{◌≡◌, ℕ, take}
use Rattle.std.specs.FinSet as set
use Rattle.std.specs.List.{list_any}
use Rattle.shogi_moves.specs.Reach.{line, range}
use Rattle.shogi_moves.specs.internal.Search.{all_headings, comes_to}
use Rattle.shogi_moves.proofs.reaching.attacks_from.Given as goal

abbrev pub invariant-loop-heading : goal.invariant-loop-heading
invariant-loop-heading l = (to : ℕ) → set.contains l.found to
    ≡ list_any (λ heading. comes_to l.board to (line (range l.piece.role heading) l.piece.side heading l.from))
    (take l.heading-index all_headings)
