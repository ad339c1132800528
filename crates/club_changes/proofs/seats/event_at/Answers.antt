use Rattle.std.proofs.Common.{◌-◌, sym, length}
use Rattle.std.proofs.lemmas.Bool.{ltb-true}
use Rattle.club_core.specs.internal.Answer.{event_of}
use Rattle.club_changes.proofs.ReadRows.{placed}
use Rattle.club_changes.proofs.seats.event_at.Goals as goal

pub returns-in-Some-clause-at : goal.returns-in-Some-clause-at
returns-in-Some-clause-at c =
    let found = c.in-Some.ensures.lookup in
    placed event_of c.args.events.now c.args.event c.in-Some.event.now c.if-event-eq0.false
    (ltb-true (c.args.event - 1) (length c.args.events.now) (sym found.0)) found.1
