use Rattle.std.proofs.Common.{append_assoc}
use Rattle.diagrams.specs.BodDiagram.{rank_text}
use Rattle.diagrams.proofs.bod.push_rank.Goals as goal

pub returns : goal.returns
unfolding rank_text
returns c =
    simp (
      c.in_ok-push_str-4.ensures.bytes,
      c.in_ok-push_str-3.ensures.bytes,
      c.digit_name.ensures,
      c.in_ok-push_str-2.ensures.bytes,
      c.in_ok-push_squares.ensures,
      c.in_ok-push_str.ensures.bytes,
      append_assoc,
    )
