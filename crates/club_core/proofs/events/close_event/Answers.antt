use Rattle.std.proofs.Common.{◌≡◌, suc, Some, None, sym, ap, ◌∙◌, refl, string_bytes, rules, tests}
use Rattle.std.proofs.lemmas.Iterator.{YieldsList-from_slice}
use Rattle.std.proofs.lemmas.Iterator.Search.{find_from_yields_List}
use Rattle.club_requests.specs.declared.requests.Caller.TheVariants.{Officer}
use Rattle.club_core.specs.Events.{has_event_name}
use Rattle.club_core.specs.internal.Answer.{event_of, events_of}
use Rattle.club_core.proofs.Finds.{found-map, none-map}
use Rattle.club_core.proofs.KeyLemmas.{close-answered}
use Rattle.club_core.proofs.events.close_event.Goals as goal

pub returns-in-None : goal.returns-in-None
returns-in-None c = λ moment.
    let name = c.as_str-name.result.now in
    let found = find_from_yields_List (λ e. has_event_name name (event_of e)) c.find.new.self _ None
    c.in-None.ensures.ran
    (YieldsList-from_slice c.args.events.now cc) (λ x b q k. search (rules, tests)) in
    let none = rw c.as_str-name.ensures.value at
    (none-map (has_event_name name) event_of c.args.events.now (sym found)) in
    let officer : c.args.caller ≡ Officer = search (rules, tests) in
    rw (officer, none) refl

pub returns-then-is_some : goal.returns-then-is_some
returns-then-is_some c = λ moment.
    let name = c.as_str-name.result.now in
    let e = c.in-Some.event.now in
    let found = find_from_yields_List (λ e. has_event_name name (event_of e)) c.find.new.self _
    (Some c.in-Some.event) c.in-Some.ensures.ran
    (YieldsList-from_slice c.args.events.now cc) (λ x b q k. search (rules, tests)) in
    let (k, there, at) = found-map (has_event_name name) event_of c.args.events.now e (sym found) in
    let officer : c.args.caller ≡ Officer = search (rules, tests) in
    let step = close-answered c.args.caller (events_of c.args.events.now) name
    (string_bytes c.args.command.now.event) k (event_of e) moment officer c.as_str-name.ensures.value there at in
    let closed = sym c.is_some.ensures ∙ c.if-is_some.true in
    sym (step ∙ rw closed refl)

pub returns-else-is_some : goal.returns-else-is_some
returns-else-is_some c = λ moment.
    let name = c.as_str-name.result.now in
    let e = c.in-Some.event.now in
    let found = find_from_yields_List (λ e. has_event_name name (event_of e)) c.find.new.self _
    (Some c.in-Some.event) c.in-Some.ensures.ran
    (YieldsList-from_slice c.args.events.now cc) (λ x b q k. search (rules, tests)) in
    let (k, there, at) = found-map (has_event_name name) event_of c.args.events.now e (sym found) in
    let officer : c.args.caller ≡ Officer = search (rules, tests) in
    let step = close-answered c.args.caller (events_of c.args.events.now) name
    (string_bytes c.args.command.now.event) k (event_of e) moment officer c.as_str-name.ensures.value there at in
    let still_open = sym c.is_some.ensures ∙ c.if-is_some.false in
    sym (step ∙ rw still_open refl)
