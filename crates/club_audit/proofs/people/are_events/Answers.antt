use Rattle.std.proofs.Common.{refl, arith, sym, ◌∙◌}
use Rattle.std.proofs.lemmas.Option.{slice_get_read}
use Rattle.club_audit.specs.internal.Audit.{IsEventAt}
use Rattle.club_audit.proofs.PeopleLemmas.{events-from, events-count, events-at}
use Rattle.club_audit.proofs.PlacedLemmas.{below-read, below-all}
use Rattle.club_audit.proofs.people.are_events.Goals as goal

pub returns-then-events-gt-MOST_EVENTS-clause-complete : goal.returns-then-events-gt-MOST_EVENTS-clause-complete
returns-then-events-gt-MOST_EVENTS-clause-complete c = λ xs are.
    let few = events-count xs c.args.events.now are in
    absurd (omega (arith, few))

pub returns-then-not-is_event-clause-complete : goal.returns-then-not-is_event-clause-complete
returns-then-not-is_event-clause-complete c = λ xs are.
    sym c.if-not-is_event.true ∙ c.is_event.ensures.complete (events-at xs _ are _ _
    (slice_get_read c.args.events.now _ _ _ refl c.loop-place-test.true c.index-events-place.is))

pub loop-place-preserved : goal.loop-place-preserved
loop-place-preserved c = below-read _ _ _ _ c.loop-place-test.true c.index-events-place.is c.loop-place.invariant
    (c.is_event.ensures.sound c.if-not-is_event.false)

pub returns-clause-sound : goal.returns-clause-sound
returns-clause-sound c = λ _.
    events-from c.args.events.now (omega (arith, c.if-events-gt-MOST_EVENTS.false))
    (below-all (IsEventAt c.args.events.now) c.loop-place.place c.args.events.now
    (omega (arith, c.loop-place-test.false)) c.loop-place.invariant)
