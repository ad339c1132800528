use Rattle.std.proofs.Common.{◌∙◌, ap, arith}
use Rattle.std.specs.Ordering.{nat_cmp}
use Rattle.std.specs.FinSet as set
use Rattle.shogi_moves.specs.internal.Search.{all_headings, piece_reaches}
use Rattle.shogi_moves.proofs.SeekLemmas.{any_more, any_all}
use Rattle.shogi_moves.proofs.reaching.attacks_from.Goals as goal

pub loop-heading-init : goal.loop-heading-init
loop-heading-init c to = ap (λ s. set.contains s to) c.new-found.ensures ∙ set.contains-empty nat_cmp to

pub loop-heading-preserved : goal.loop-heading-preserved
loop-heading-preserved c to =
    let w = c.loop-heading in
    (rw c.of_piece.ensures at (c.with_line-found.ensures to))
    ∙ any_more _ all_headings w.heading-index _ _ (omega (arith, c.loop-heading-test.true)) (w.invariant to)

pub returns : goal.returns
unfolding piece_reaches
returns c to =
    let w = c.loop-heading in
    any_all _ all_headings w.heading-index _ (omega (arith, c.loop-heading-test.false)) (w.invariant to)
