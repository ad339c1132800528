use Rattle.std.proofs.Common.{refl, sym, ◌∙◌}
use Rattle.club_answers.proofs.lists.event_records.Goals as goal

pub returns : goal.returns
returns c s moment read = record {
  name = c.args.name.now;
  asked_is = refl;
  there = sym (rw (c.as_str.ensures.value, c.deref.ensures.value, read.events_are) at c.has_event.ensures)
      ∙ c.if-not-has_event.false;
  kind_is = rw (c.as_str-3.ensures.value, c.deref-4.ensures.value, read.events_are) at c.event_kind-kind.ensures;
  ids_are =
      rw (c.as_str-2.ensures.value, c.deref-2.ensures.value, c.deref-3.ensures.value, read.events_are, read.games_are)
      at c.in_ok-ids.ensures;
}
