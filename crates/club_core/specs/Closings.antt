-- The transition that closes an event to challenges.
use Rattle.std.specs.Prelude.{ℕ, ◌-◌, List, Option, Some, None, is_some, if◌then◌else◌, slice_get, slice_set}
use Rattle.club_requests.specs.declared.refusals.Refusal.TheVariants.{UnknownEvent}
use Rattle.club_requests.specs.Outcome.{event_closed, Outcome, accepted, repeated, refused}
use Rattle.club_core.specs.Members.{find_id}
use Rattle.club_core.specs.Events.{Event, has_event_name}

-- the event, closed at this timestamp
abbrev pub closed_at : Event → ℕ → Event
closed_at e moment = record e { closed = Some moment }

-- closes the event with this id, after it is looked up; an event is closed once and never opened again
abbrev pub close : List Event → ℕ → Option Event → ℕ → Outcome (List Event)
close events id None moment = refused UnknownEvent
close events id (Some e) moment =
    if is_some e.closed
    then repeated event_closed
    else accepted (slice_set events (id - 1) (closed_at e moment)) event_closed

-- the transition after the id of the event is looked up by name
abbrev pub close_found : List Event → Option ℕ → ℕ → Outcome (List Event)
close_found events None moment = refused UnknownEvent
close_found events (Some id) moment = close events id (slice_get events (id - 1)) moment

-- closes the event with this name to challenges at this timestamp
abbrev pub close_step : List Event → List ℕ → ℕ → Outcome (List Event)
close_step events name moment = close_found events (find_id (has_event_name name) events) moment
