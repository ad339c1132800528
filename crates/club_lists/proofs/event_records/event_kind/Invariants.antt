use Rattle.std.proofs.Common.{◌≡◌, drop}
use Rattle.club_core.specs.internal.Answer.{events_of}
use Rattle.club_core.specs.Events.{event_kind}
use Rattle.club_lists.proofs.event_records.event_kind.Given as goal

abbrev pub invariant-loop-event : goal.invariant-loop-event
invariant-loop-event l =
    event_kind (events_of (drop l.event-index l.events)) l.name ≡ event_kind (events_of l.events) l.name
