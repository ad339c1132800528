use Rattle.std.proofs.Common.{◌≡◌, drop}
use Rattle.club_core.specs.internal.Answer.{events_of}
use Rattle.club_core.specs.Events.{event_kind}
use Rattle.club_changes.proofs.imports.event_kind.Given as goal

abbrev pub invariant-loop-i : goal.invariant-loop-i
invariant-loop-i l = event_kind (drop l.i (events_of l.events)) l.name ≡ event_kind (events_of l.events) l.name
