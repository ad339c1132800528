use Rattle.std.proofs.Common.{◌≡◌, ◌+◌, ◌++◌, drop, length, map}
use Rattle.serde_json.specs.View.{view}
use Rattle.club_core.specs.internal.Answer.{events_of}
use Rattle.club_lists.specs.ClubJson.{event_entries_from}
use Rattle.club_lists.specs.internal.SummaryViews.{summaries_of}
use Rattle.club_lists.proofs.club_json.event_entries.Given as goal

abbrev pub invariant-loop-event : goal.invariant-loop-event
invariant-loop-event l = record {
  count : length l.values.items ≡ l.event-index;
  entries : map view l.values.items
      ++ event_entries_from (summaries_of l.games) (l.event-index + 1) (events_of (drop l.event-index l.events))
      ≡ event_entries_from (summaries_of l.games) 1 (events_of l.events);
}
