use Rattle.std.proofs.Common.{suc, ap, sym, ◌∙◌, rules, tests}
use Rattle.std.specs.Option.{option_map}
use Rattle.std.proofs.lemmas.Iterator.{YieldsList-from_slice}
use Rattle.std.proofs.lemmas.Iterator.Search.{position_from_yields_List}
use Rattle.club_core.specs.Answer.{added_event}
use Rattle.club_core.specs.internal.Answer.{event_of}
use Rattle.club_core.specs.Events.{is_event}
use Rattle.club_core.proofs.Finds.{find_id-map}
use Rattle.club_core.proofs.events.find_event.Goals as goal

pub returns : goal.returns
returns c =
    c.id_at.ensures
    ∙
    (ap (option_map suc)
    (position_from_yields_List (λ m. is_event (added_event c.args.command.now) (event_of m)) _ _ _
    c.position.ensures.ran (YieldsList-from_slice c.args.events.now cc) (λ x b q k. search (rules, tests)))
    ∙ sym (find_id-map (is_event (added_event c.args.command.now)) _ c.args.events.now))
