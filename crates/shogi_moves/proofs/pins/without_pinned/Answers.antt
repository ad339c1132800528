use Rattle.std.proofs.Common.{false, refl, sym, arith}
use Rattle.std.specs.FinMap as map
use Rattle.shogi_moves.specs.internal.Facing.{seen}
use Rattle.shogi_moves.specs.internal.Search.{all_headings}
use Rattle.shogi_moves.proofs.PinLemmas.{none_faced, one_heading_more}
use Rattle.shogi_moves.proofs.SeekLemmas.{any_all}
use Rattle.shogi_moves.proofs.pins.without_pinned.Goals as goal

pub loop-heading-init : goal.loop-heading-init
loop-heading-init c = record { kept = λ n e. e; safe = λ n e. refl }

pub loop-heading-preserved : goal.loop-heading-preserved
loop-heading-preserved c =
    let w = c.loop-heading in
    let step = c.without_square-free.ensures in
    record {
      kept = λ n e. w.invariant.kept n (step.kept n e);
      safe = λ n e.
          one_heading_more (map.remove c.args.board.now n) c.args.side c.args.square w.heading-index _
          (omega (arith, c.loop-heading-test.true)) (w.invariant.safe n (step.kept n e))
          (c.pinned_along.ensures n (step.removed n e)
          (none_faced c.args.board.now c.args.side c.args.square _ c.requires));
    }

pub returns-clause-kept : goal.returns-clause-kept
returns-clause-kept c = c.loop-heading.invariant.kept

pub returns-clause-safe : goal.returns-clause-safe
unfolding seen
returns-clause-safe c n e =
    let w = c.loop-heading in
    sym
    (any_all _ all_headings w.heading-index false (omega (arith, c.loop-heading-test.false)) (sym (w.invariant.safe n e)))
