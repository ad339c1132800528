use Rattle.std.proofs.Common.{◌-◌, length, sym, ◌∙◌}
use Rattle.std.proofs.lemmas.Bool.{ltb-true, ltb-false}
use Rattle.club_core.specs.internal.Answer.{event_of}
use Rattle.club_core.proofs.KeyLemmas.{closed-at, closed-past}
use Rattle.club_core.proofs.events.is_closed.Goals as goal

pub returns-in-Some : goal.returns-in-Some
returns-in-Some c =
    let found = c.in-Some.ensures.lookup in
    c.is_some.ensures
    ∙
    sym
    (closed-at event_of c.args.events.now c.args.id c.in-Some.event.now c.if-id-eq0.false
    (ltb-true (c.args.id - 1) (length c.args.events.now) (sym found.0)) found.1)

pub returns-in-None : goal.returns-in-None
returns-in-None c =
    let past = ltb-false (c.args.id - 1) (length c.args.events.now) (sym c.in-None.ensures.lookup.0) in
    sym (closed-past event_of c.args.events.now c.args.id c.if-id-eq0.false past)
