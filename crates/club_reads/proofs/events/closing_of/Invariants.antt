use Rattle.std.proofs.Common.{Option, drop, ℕ}
use Rattle.club_reads.specs.internal.Closings.{IsClosing}
use Rattle.club_reads.proofs.events.closing_of.Given as goal

abbrev pub invariant-loop-closing : goal.invariant-loop-closing
invariant-loop-closing l = record {
  rest : (closed : Option ℕ) → IsClosing (drop l.closing-index l.closings) l.event.id closed
      → IsClosing l.closings l.event.id closed;
}
