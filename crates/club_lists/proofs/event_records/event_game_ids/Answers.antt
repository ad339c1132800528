use Rattle.std.proofs.Common.{refl, sym, ◌∙◌}
use Rattle.club_core.specs.internal.Answer.{events_of}
use Rattle.club_lists.specs.Shows.{is_of_event}
use Rattle.club_lists.specs.GameSummary.{GameSummary}
use Rattle.club_lists.specs.internal.SummaryViews.{summary_of}
use Rattle.club_lists.proofs.Picked.{one_kept, one_passed}
use Rattle.club_lists.proofs.event_records.event_game_ids.Goals as goal

pub loop-game-preserved : goal.loop-game-preserved
loop-game-preserved c =
    one_kept (λ (told : GameSummary). told.id) (is_of_event (events_of c.args.events.now) c.args.name.now) summary_of
    c.args.games.now c.loop-game.game-index c.game-item.result c.loop-game-test.true c.game-item.is
    c.loop-game.ids.items c.push.new.self.items _ c.loop-game.invariant
    (sym c.is_of_event.ensures ∙ c.if-not-is_of_event.false) refl c.in_ok-push.ensures.items

pub loop-game-preserved-then-not-is_of_event : goal.loop-game-preserved-then-not-is_of_event
loop-game-preserved-then-not-is_of_event c =
    one_passed (λ (told : GameSummary). told.id) (is_of_event (events_of c.args.events.now) c.args.name.now) summary_of
    c.args.games.now c.loop-game.game-index c.game-item.result c.loop-game-test.true c.game-item.is
    c.loop-game.ids.items c.loop-game.invariant (sym c.is_of_event.ensures ∙ c.if-not-is_of_event.true)
