use Rattle.std.proofs.Common.{append_assoc}
use Rattle.diagrams.specs.DraughtsDiagram.{row_text}
use Rattle.diagrams.proofs.draughts.push_row.Goals as goal

pub returns : goal.returns
unfolding row_text
returns c =
    simp (
      c.in_ok-push_str-3.ensures.bytes,
      c.in_ok-push_number-2.ensures,
      c.in_ok-push_str-2.ensures.bytes,
      c.in_ok-push_cells.ensures,
      c.in_ok-push_str.ensures.bytes,
      c.in_ok-push_number.ensures,
      append_assoc,
    )
