use Rattle.squares.specs.declared.shogi.piece.HandKind.TheVariants.{Rook}
use Rattle.diagrams.specs.BodDiagram.{held_text}
use Rattle.diagrams.specs.ShogiLines.{hand_kinds}
use Rattle.diagrams.proofs.ShogiWriting.{kinds-more, kinds-end}
use Rattle.diagrams.proofs.bod.push_kinds.Goals as goal

pub loop-kind-preserved : goal.loop-kind-preserved
unfolding hand_kinds
loop-kind-preserved c =
    kinds-more held_text c.args.hand hand_kinds c.loop-kind.kind-index Rook _ _ _ c.loop-kind-test.true
    c.loop-kind.invariant (rw c.count.ensures at c.in_ok-push_held.ensures)

pub returns : goal.returns
unfolding hand_kinds
returns c =
    kinds-end held_text c.args.hand hand_kinds c.loop-kind.kind-index _ _ c.loop-kind-test.false c.loop-kind.invariant
