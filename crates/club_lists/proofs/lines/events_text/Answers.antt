use Rattle.std.proofs.Common.{◌+◌, ap, ◌∙◌, rules}
use Rattle.std.specs.Prelude.{string_bytes}
use Rattle.club_core.specs.internal.Answer.{event_of}
use Rattle.club_lists.specs.Lines.{event_line}
use Rattle.club_lists.specs.internal.SummaryViews.{summaries_of}
use Rattle.club_lists.proofs.Numbered.{numbered_more}
use Rattle.club_lists.proofs.lines.events_text.Goals as goal

pub loop-event-preserved : goal.loop-event-preserved
loop-event-preserved c =
    let games = summaries_of c.args.games.now in
    let id_is = c.loop-event.invariant.count in
    record {
      count = ap (λ n. n + 1) id_is;
      lines = numbered_more (event_line games) event_of c.args.events.now c.loop-event.event-index
          c.event-item.result
          (string_bytes c.loop-event.text) (string_bytes c.in_ok-line.line) _ _ c.loop-event-test.true
          c.loop-event.invariant.lines
          (c.in_ok-line.ensures ∙ (λ i. event_line games (id_is i + 1) (event_of (c.event-item.is i)))) (search rules);
    }
