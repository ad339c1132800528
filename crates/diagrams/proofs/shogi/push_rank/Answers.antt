use Rattle.std.proofs.Common.{append_assoc, arith}
use Rattle.diagrams.specs.ShogiDiagram.{rank_text}
use Rattle.diagrams.proofs.shogi.push_rank.Goals as goal

pub returns : goal.returns
unfolding rank_text
returns c =
    simp (
      c.in_ok-push_str-2.ensures.bytes,
      c.in_ok-push.ensures.bytes,
      c.in_ok-push.ensures.ascii (omega (arith, c.requires.high)),
      c.in_ok-push_str.ensures.bytes,
      c.in_ok-push_squares.ensures,
      append_assoc,
    )
