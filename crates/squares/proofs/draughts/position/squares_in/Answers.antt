use Rattle.std.proofs.Common.{◌+◌, ◌∙◌, sym, subst, arith}
use Rattle.squares.proofs.DraughtsSides.{HasFirst, first-none, first-same, first-more, first-all}
use Rattle.squares.proofs.draughts.position.squares_in.Goals as goal
use Rattle.squares.proofs.draughts.position.squares_in.Goals.{then-is_of, else-is_of}

pub loop-i-init : goal.loop-i-init
loop-i-init c = subst (HasFirst c.args.side c.args.cells.now 0) (sym c.new-squares.ensures)
    (first-none c.args.side c.args.cells.now)

pub loop-i-preserved : goal.loop-i-preserved
loop-i-preserved c =
    let w = c.loop-i in
    let cells = c.args.cells.now in
    elim c.if-is_of.branch [
      | then-is_of v ↦
          subst (HasFirst c.args.side cells (w.i + 1)) (sym (v.squares-is ∙ v.with-squares.ensures))
          (first-more c.args.side cells w.i w.squares w.invariant (w.i + 1) (omega arith)
          (sym c.is_of.ensures ∙ v.if-is_of.true))
      | else-is_of v ↦
          subst (HasFirst c.args.side cells (w.i + 1)) (sym v.squares-is)
          (first-same c.args.side cells w.i w.squares w.invariant (sym c.is_of.ensures ∙ v.if-is_of.false))
    ]

pub returns : goal.returns
returns c n =
    let w = c.loop-i in
    first-all c.args.side c.args.cells.now w.i w.squares (omega (arith, c.requires, c.loop-i-test.false)) w.invariant n
