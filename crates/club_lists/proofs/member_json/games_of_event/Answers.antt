use Rattle.std.proofs.Common.{sym, ◌∙◌}
use Rattle.serde_json.specs.View.{view}
use Rattle.club_core.specs.internal.Answer.{events_of, members_of}
use Rattle.club_lists.specs.Shows.{event_game_data, is_of_event}
use Rattle.club_lists.specs.internal.SummaryViews.{summary_of}
use Rattle.club_lists.proofs.Picked.{one_left, one_picked}
use Rattle.club_lists.proofs.member_json.games_of_event.Goals as goal

pub loop-game-preserved : goal.loop-game-preserved
loop-game-preserved c =
    one_picked view (event_game_data (members_of c.args.members.now))
    (is_of_event (events_of c.args.events.now) c.args.name.now) summary_of c.args.games.now c.loop-game.game-index
    c.game-item.result c.loop-game-test.true
    c.game-item.is c.loop-game.values.items c.push.new.self.items _ c.loop-game.invariant
    (sym c.is_of_event.ensures ∙ c.if-not-is_of_event.false) c.in_ok-event_game_value.ensures c.in_ok-push.ensures.items

pub loop-game-preserved-then-not-is_of_event : goal.loop-game-preserved-then-not-is_of_event
loop-game-preserved-then-not-is_of_event c =
    one_left view (event_game_data (members_of c.args.members.now))
    (is_of_event (events_of c.args.events.now) c.args.name.now) summary_of c.args.games.now c.loop-game.game-index
    c.game-item.result c.loop-game-test.true
    c.game-item.is c.loop-game.values.items c.loop-game.invariant (sym c.is_of_event.ensures ∙ c.if-not-is_of_event.true)
