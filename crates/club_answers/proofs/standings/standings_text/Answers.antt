use Rattle.std.proofs.Common.{ap, ◌∙◌}
use Rattle.club_core.specs.internal.Answer.{events_of, members_of}
use Rattle.club_lists.specs.Standings.{standings_json}
use Rattle.club_answers.proofs.standings.standings_text.Goals as goal

pub returns : goal.returns
returns c s moment read scores named =
    let members = ap members_of c.deref.ensures.value ∙ read.members_are in
    let events = ap events_of c.deref-2.ensures.value ∙ read.events_are in (
      c.args.event,
      named,
      c.in_ok-lines.lines.items,
      c.in_ok-lines.ensures s moment read scores,
      c.in_ok-text.ensures
          ∙ (λ i. standings_json (members i) (events i) c.args.name.now (c.deref-3.ensures.value i)),
    )
