use Rattle.std.proofs.Common.{append_assoc}
use Rattle.diagrams.specs.ShogiDiagram.{shogi_text}
use Rattle.diagrams.proofs.shogi.write_shogi.Goals as goal

pub returns : goal.returns
unfolding shogi_text
returns c =
    simp (
      c.in_ok-push_line-2.ensures,
      c.in_ok-push_board.ensures,
      c.board.ensures.value,
      c.in_ok-push_line.ensures,
      c.hands-hands.ensures,
      c.new-text.ensures.bytes,
      append_assoc,
    )
