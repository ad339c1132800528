use Rattle.serde_json.specs.View.{view}
use Rattle.club_core.specs.internal.Answer.{event_of}
use Rattle.club_lists.specs.Shows.{event_data}
use Rattle.club_lists.proofs.Picked.{one_told}
use Rattle.club_lists.proofs.member_json.event_values.Goals as goal

pub loop-event-preserved : goal.loop-event-preserved
loop-event-preserved c =
    one_told view event_data event_of c.args.events.now c.loop-event.event-index c.event-item.result
    c.loop-event-test.true c.event-item.is c.loop-event.values.items c.push.new.self.items _ c.loop-event.invariant
    c.in_ok-event_value.ensures c.in_ok-push.ensures.items
