use Rattle.squares.specs.declared.shogi.piece.HandKind.TheVariants.{Rook}
use Rattle.squares.specs.ShogiPieces.{on_board}
use Rattle.diagrams.specs.ShogiLetters.{capital}
use Rattle.diagrams.specs.ShogiDiagram.{held_text}
use Rattle.diagrams.specs.ShogiLines.{hand_kinds}
use Rattle.diagrams.proofs.ShogiWriting.{kinds-more, kinds-end}
use Rattle.diagrams.proofs.shogi.push_kinds.Goals as goal

pub loop-kind-preserved : goal.loop-kind-preserved
unfolding hand_kinds
loop-kind-preserved c =
    kinds-more (λ kind n. held_text (capital (on_board kind)) n) c.args.hand hand_kinds c.loop-kind.kind-index Rook
    _ _ _ c.loop-kind-test.true c.loop-kind.invariant
    (rw (c.capital.ensures.value, c.kind.ensures, c.count.ensures) at c.in_ok-push_held.ensures)

pub returns : goal.returns
unfolding hand_kinds
returns c =
    kinds-end (λ kind n. held_text (capital (on_board kind)) n) c.args.hand hand_kinds c.loop-kind.kind-index _ _
    c.loop-kind-test.false c.loop-kind.invariant
