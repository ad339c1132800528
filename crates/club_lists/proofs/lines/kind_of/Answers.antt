use Rattle.std.proofs.Common.{◌-◌, sym, length, ap}
use Rattle.std.proofs.lemmas.Bool.{ltb-true, ltb-false}
use Rattle.club_core.specs.internal.Answer.{event_of}
use Rattle.club_core.specs.State.{kind_at}
use Rattle.club_lists.proofs.Lists.{told_at, told_none}
use Rattle.club_lists.proofs.lines.kind_of.Goals as goal

pub returns-in-Some : goal.returns-in-Some
returns-in-Some c =
    let found = c.in-Some.ensures.lookup in
    let stands = told_at event_of c.args.events.now c.args.id c.in-Some.event.now c.if-id-eq0.false
    (ltb-true (c.args.id - 1) (length c.args.events.now) (sym found.0)) found.1 in
    sym (ap kind_at stands)

pub returns-in-None : goal.returns-in-None
returns-in-None c =
    let past = ltb-false (c.args.id - 1) (length c.args.events.now) (sym c.in-None.ensures.lookup.0) in
    sym (ap kind_at (told_none event_of c.args.events.now c.args.id c.if-id-eq0.false past))
