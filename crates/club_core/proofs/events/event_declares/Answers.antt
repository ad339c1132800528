use Rattle.std.proofs.Common.{◌&&◌, sym, ◌∙◌, rules, tests}
use Rattle.std.proofs.lemmas.Iterator.{YieldsList-from_slice}
use Rattle.std.proofs.lemmas.Iterator.Search.{any_from_yields_List}
use Rattle.club_core.specs.internal.Answer.{event_of}
use Rattle.club_core.specs.Events.{has_event_name}
use Rattle.club_core.proofs.Finds.{list_any-map}
use Rattle.club_core.proofs.events.event_declares.Goals as goal

pub returns : goal.returns
returns c =
    any_from_yields_List (λ m. has_event_name c.args.name.now (event_of m) && m.declares) _ _ _ c.any.ensures.ran
    (YieldsList-from_slice c.args.events.now cc) (λ x b q k. search (rules, tests))
    ∙ sym (list_any-map (λ e. has_event_name c.args.name.now e && e.terms.declares) _ c.args.events.now)
