use Rattle.std.proofs.Common.{append_assoc}
use Rattle.diagrams.proofs.shogi.push_line.Goals as goal

pub returns : goal.returns
returns c =
    simp (c.in_ok-push_str-2.ensures.bytes, c.in_ok-push_hand.ensures, c.in_ok-push_str.ensures.bytes, append_assoc)
