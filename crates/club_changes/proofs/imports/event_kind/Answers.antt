use Rattle.std.proofs.Common.{◌≡◌, true, false, sym, ◌∙◌, rules}
use Rattle.club_core.specs.internal.Answer.{event_of}
use Rattle.club_core.specs.Events.{has_event_name}
use Rattle.club_changes.proofs.ImportLemmas.{kind_at_place}
use Rattle.club_changes.proofs.imports.event_kind.Goals as goal

pub returns-then-eq : goal.returns-then-eq
returns-then-eq c =
    let e = c.index-events-i.result in
    let has : has_event_name c.args.name.now (event_of e) ≡ true = search rules in
    sym (rw has at (sym c.loop-i.invariant
    ∙ kind_at_place c.args.events.now c.args.name.now c.loop-i.i e c.loop-i-test.true c.index-events-i.is))

pub loop-i-preserved : goal.loop-i-preserved
loop-i-preserved c =
    let e = c.index-events-i.result in
    let has : has_event_name c.args.name.now (event_of e) ≡ false = search rules in
    sym (rw has at (sym c.loop-i.invariant
    ∙ kind_at_place c.args.events.now c.args.name.now c.loop-i.i e c.loop-i-test.true c.index-events-i.is))
