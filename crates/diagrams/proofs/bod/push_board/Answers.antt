use Rattle.std.proofs.Common.{append_assoc}
use Rattle.diagrams.specs.BodDiagram.{board_text}
use Rattle.diagrams.proofs.bod.push_board.Goals as goal

pub returns : goal.returns
unfolding board_text
returns c =
    simp (
      c.in_ok-push_str-3.ensures.bytes,
      c.border-2.ensures,
      c.in_ok-push_ranks.ensures,
      c.in_ok-push_str-2.ensures.bytes,
      c.border.ensures,
      c.in_ok-push_str.ensures.bytes,
      c.heading.ensures,
      append_assoc,
    )
