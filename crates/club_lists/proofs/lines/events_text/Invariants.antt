use Rattle.std.proofs.Common.{◌≡◌, ◌+◌, ◌++◌, drop}
use Rattle.std.specs.Prelude.{string_bytes}
use Rattle.club_core.specs.internal.Answer.{events_of}
use Rattle.club_lists.specs.Lines.{numbered, event_line}
use Rattle.club_lists.specs.internal.SummaryViews.{summaries_of}
use Rattle.club_lists.proofs.lines.events_text.Given as goal

abbrev pub invariant-loop-event : goal.invariant-loop-event
invariant-loop-event l = record {
  count : l.id ≡ l.event-index;
  lines : string_bytes l.text
      ++ numbered (event_line (summaries_of l.games)) (l.event-index + 1) (events_of (drop l.event-index l.events))
      ≡ numbered (event_line (summaries_of l.games)) 1 (events_of l.events);
}
