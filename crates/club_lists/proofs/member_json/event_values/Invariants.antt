use Rattle.std.proofs.Common.{◌≡◌, ◌++◌, drop, map}
use Rattle.serde_json.specs.View.{view}
use Rattle.club_core.specs.internal.Answer.{events_of}
use Rattle.club_lists.specs.Shows.{event_data}
use Rattle.club_lists.proofs.member_json.event_values.Given as goal

abbrev pub invariant-loop-event : goal.invariant-loop-event
invariant-loop-event l =
    map view l.values.items ++ map event_data (events_of (drop l.event-index l.events))
    ≡ map event_data (events_of l.events)
